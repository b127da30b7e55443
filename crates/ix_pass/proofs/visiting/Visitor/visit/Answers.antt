use Rattle.std.proofs.Common.{◌≡◌, [], ℕ, true, false, List, refl, sym, subst}
use Rattle.std.specs.Prelude.{Option, Some, None, Result, Ok, Err, IfSome}
use Rattle.std.specs.Option.{option_map}
use Rattle.ix_base.specs.declared.events.Spot.{Spot}
use Rattle.ix_fs.specs.declared.trees.TreeFile.{TreeFile}
use Rattle.ix_fs.specs.Trees.{bytes_at}
use Rattle.ix_monitor.specs.Steps.{plan}
use Rattle.ix_monitor.specs.declared.steps.Seen.{Seen}
use Rattle.ix_monitor.specs.declared.steps.Step.{Step}
use Rattle.ix_model.specs.declared.commands.TimedCommand.{TimedCommand}
use Rattle.ix_run.specs.declared.giving.GiveFault.{GiveFault}
use Rattle.ix_pass.specs.Filling.{gave_of}
use Rattle.ix_pass.specs.Giving.{Tried, Went, kind, change}
use Rattle.ix_watch.specs.Visits.{joined, seen_of}
use Rattle.ix_watch.specs.Visits.{IsFoundIn}
use Rattle.ix_pass.specs.Visiting.{is_whole, StepReads, Steps, found_with, looked_at}
use Rattle.ix_pass.proofs.Buffers.{if_both, if_one}
use Rattle.ix_pass.proofs.Filled.{gave_all}
use Rattle.ix_pass.proofs.Going.{went_none, tried_none, tried_some}
use Rattle.ix_pass.proofs.Seeing.{missed, unseen, seen_is}
use Rattle.ix_pass.proofs.visiting.Visitor.visit.Goals as goal

unseen_in : (path : List ℕ) (files : Option (List TreeFile)) → IfSome files (λ all. IsFoundIn false None None (bytes_at all path))
unseen_in path None = tt
unseen_in path (Some all) = unseen (bytes_at all path)

pub returns-in-Ok-None-clause-visits : goal.returns-in-Ok-None-clause-visits
returns-in-Ok-None-clause-visits g c = record {
  kept = None;
  is_open = false;
  found = None;
  known = tt;
  came = refl;
  read = tt;
  told = if_one (λ (all : List TreeFile). None ≡ option_map seen_of (bytes_at all c.args.self.file.now.path))
      (λ (all : List TreeFile). IsFoundIn true None None (bytes_at all c.args.self.file.now.path))
      (λ all is. missed (bytes_at all c.args.self.file.now.path) is) (g.T.Tree.files c.args.tree.now)
      (subst (λ (o : Option Seen). IfSome (g.T.Tree.files c.args.tree.now)
      (λ (all : List TreeFile). o ≡ option_map seen_of (bytes_at all c.args.self.file.now.path))) c.in-Ok-None.field-0-is
      c.in-Ok-None.ensures.seen);
  tried = tried_none (g.C.Clock.ahead c.args.clock.now)
      (λ (orders : List TimedCommand). Went g.D.Disk (kind g.M.StoreMemory.is_chooser g.M.StoreMemory.takes g.M.Book.ManifestState.fits
      g.M.StoreMemory.holds) (Ok tt) orders (change c.args.store.now c.args.disk.now c.args.store.now c.args.disk.now))
      (went_none g.D.Disk g.M.StoreMemory.is_chooser g.M.StoreMemory.takes g.M.Book.ManifestState.fits g.M.StoreMemory.holds
      g.met.M.StoreMemory.ticks_are_taken c.args.store.now c.args.disk.now c.requires.over);
}

pub returns-in-Err-clause-visits : goal.returns-in-Err-clause-visits
returns-in-Err-clause-visits g c = record {
  kept = None;
  is_open = false;
  found = None;
  known = tt;
  came = tt;
  read = tt;
  told = unseen_in c.args.self.file.now.path (g.T.Tree.files c.args.tree.now);
  tried = tried_some false [] (g.C.Clock.ahead c.args.clock.now) (g.C.Clock.ahead c.args.clock.now)
      (λ (orders : List TimedCommand). Went g.D.Disk (kind g.M.StoreMemory.is_chooser g.M.StoreMemory.takes g.M.Book.ManifestState.fits
      g.M.StoreMemory.holds) (gave_of {T = ℕ} (Err c.in-Err.fault)) orders
      (change c.args.store.now c.args.disk.now c.args.store.now c.args.disk.now))
      (subst (λ (r : Result Unit GiveFault). Tried true [] (g.C.Clock.ahead c.args.clock.now) (g.C.Clock.ahead c.args.clock.now)
      (λ (orders : List TimedCommand). Went g.D.Disk (kind g.M.StoreMemory.is_chooser g.M.StoreMemory.takes g.M.Book.ManifestState.fits
      g.M.StoreMemory.holds) r orders (change c.args.store.now c.args.disk.now c.args.store.now c.args.disk.now)))
      (sym (gave_all c.in-Err.fault c.in-Err.ensures.not_given))
      (tried_none (g.C.Clock.ahead c.args.clock.now) (λ (orders : List TimedCommand).
      Went g.D.Disk (kind g.M.StoreMemory.is_chooser g.M.StoreMemory.takes g.M.Book.ManifestState.fits g.M.StoreMemory.holds) (Ok tt)
      orders (change c.args.store.now c.args.disk.now c.args.store.now c.args.disk.now))
      (went_none g.D.Disk g.M.StoreMemory.is_chooser g.M.StoreMemory.takes g.M.Book.ManifestState.fits g.M.StoreMemory.holds
      g.met.M.StoreMemory.ticks_are_taken c.args.store.now c.args.disk.now c.requires.over)));
}

pub returns-in-Err-is_open_in-clause-visits : goal.returns-in-Err-is_open_in-clause-visits
returns-in-Err-is_open_in-clause-visits g c = record {
  kept = None;
  is_open = false;
  found = None;
  known = tt;
  came = tt;
  read = tt;
  told = unseen_in c.args.self.file.now.path (g.T.Tree.files c.args.tree.now);
  tried = tried_some false [] (g.C.Clock.ahead c.args.clock.now) (g.C.Clock.ahead c.args.clock.now)
      (λ (orders : List TimedCommand). Went g.D.Disk (kind g.M.StoreMemory.is_chooser g.M.StoreMemory.takes g.M.Book.ManifestState.fits
      g.M.StoreMemory.holds) (Ok tt) orders (change c.args.store.now c.args.disk.now c.args.store.now c.args.disk.now))
      (tried_none (g.C.Clock.ahead c.args.clock.now) (λ (orders : List TimedCommand).
      Went g.D.Disk (kind g.M.StoreMemory.is_chooser g.M.StoreMemory.takes g.M.Book.ManifestState.fits g.M.StoreMemory.holds) (Ok tt)
      orders (change c.args.store.now c.args.disk.now c.args.store.now c.args.disk.now))
      (went_none g.D.Disk g.M.StoreMemory.is_chooser g.M.StoreMemory.takes g.M.Book.ManifestState.fits g.M.StoreMemory.holds
      g.met.M.StoreMemory.ticks_are_taken c.args.store.now c.args.disk.now c.requires.over));
}

pub returns-clause-visits : goal.returns-clause-visits
returns-clause-visits g c =
    let kept : Option Spot = c.step_in-step.ensures.is.0 in
    let step : c.step_in-step.result ≡ plan c.in-Ok-Some.seen kept = c.step_in-step.ensures.is.1 in
    let files = g.T.Tree.files c.args.tree.now in
    let seen : IfSome files (λ (all : List TreeFile). Some c.in-Ok-Some.seen ≡ option_map seen_of
    (bytes_at all c.args.self.file.now.path)) =
    subst (λ (o : Option Seen). IfSome files (λ (all : List TreeFile). o ≡ option_map seen_of (bytes_at all c.args.self.file.now.path)))
    c.in-Ok-Some.field-0-is c.in-Ok-Some.ensures.seen in
    let steps : Steps c.take.result (g.T.Tree.files c.look_at.new.tree)
    (looked_at c.args.self.file.now c.in-Ok-Some.seen c.in-Ok.is_open c.args.self.close) (plan c.in-Ok-Some.seen kept)
    (g.C.Clock.ahead c.args.clock.now) (g.C.Clock.ahead c.take.new.clock)
    (λ (orders : List TimedCommand). Went g.D.Disk (kind g.M.StoreMemory.is_chooser g.M.StoreMemory.takes g.M.Book.ManifestState.fits
    g.M.StoreMemory.holds) (gave_of c.take.result) orders (change c.args.store.now c.args.disk.now c.take.new.store c.take.new.disk))
    = subst (λ (s : Step). Steps c.take.result (g.T.Tree.files c.look_at.new.tree)
    (looked_at c.args.self.file.now c.in-Ok-Some.seen c.in-Ok.is_open c.args.self.close) s (g.C.Clock.ahead c.args.clock.now)
    (g.C.Clock.ahead c.take.new.clock)
    (λ (orders : List TimedCommand). Went g.D.Disk (kind g.M.StoreMemory.is_chooser g.M.StoreMemory.takes g.M.Book.ManifestState.fits
    g.M.StoreMemory.holds) (gave_of c.take.result) orders (change c.args.store.now c.args.disk.now c.take.new.store c.take.new.disk)))
    step
    c.take.ensures.steps in
    record {
      kept = kept;
      is_open = c.in-Ok.is_open;
      found = Some (found_with c.in-Ok-Some.seen steps.blocks);
      known = λ choose history base k hold. (
        c.step_in-step.ensures.is.2 choose history base k hold.old hold.staged,
        c.in-Ok.ensures choose history base k hold.old hold.staged,
      );
      came = steps.came;
      read = record { sizes = steps.sizes; within = steps.within };
      told = if_both (λ (all : List TreeFile). Some c.in-Ok-Some.seen ≡ option_map seen_of (bytes_at all c.args.self.file.now.path))
          (λ (all : List TreeFile). IfSome (bytes_at all c.args.self.file.now.path)
          (StepReads (is_whole c.take.result) (plan c.in-Ok-Some.seen kept) c.in-Ok-Some.seen.size (joined steps.blocks)))
          (λ (all : List TreeFile). IsFoundIn (is_whole c.take.result) kept (Some (found_with c.in-Ok-Some.seen steps.blocks))
          (bytes_at all c.args.self.file.now.path))
          (λ all one two. seen_is (is_whole c.take.result) kept c.in-Ok-Some.seen steps.blocks (bytes_at all c.args.self.file.now.path) one
          two)
          files (g.T.Tree.files c.look_at.new.tree) c.look_at.ensures.same seen steps.read;
      tried = steps.tried;
    }

pub take-requires-clause-takes : goal.take-requires-clause-takes
take-requires-clause-takes g c = c.requires.takes
