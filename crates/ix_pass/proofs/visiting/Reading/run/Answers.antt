use Rattle.std.proofs.Common.{◌≡◌, ◌-◌, ◌++◌, [], ℕ, true, false, List, take, drop, refl, sym, ap, ◌∙◌}
use Rattle.std.proofs.Common.{subst, arith, append_assoc}
use Rattle.std.specs.Prelude.{Ok, Err}
use Rattle.std.proofs.lemmas.List.{take-append-drop}
use Rattle.ix_base.specs.Told.{IsFrontOf}
use Rattle.ix_model.specs.declared.commands.Command.{Command}
use Rattle.ix_model.specs.declared.commands.TimedCommand.{TimedCommand}
use Rattle.ix_pass.specs.Filling.{gave_of}
use Rattle.ix_pass.specs.Giving.{Tried, Went, kind, change}
use Rattle.ix_watch.specs.Visits.{joined, adds, ends}
use Rattle.ix_pass.specs.Visiting.{opens}
use Rattle.ix_pass.proofs.Filled.{told_any, told_one}
use Rattle.ix_pass.proofs.Going.{tried_on, tried_short, tried_some}
use Rattle.ix_pass.proofs.visiting.Reading.run.Goals as goal

none_read : (from : ℕ) (bytes : List ℕ) → IsFrontOf [] (drop from bytes)
none_read from bytes = record { rest = drop from bytes; whole_is = refl }

front_read : (from k : ℕ) (read bytes : List ℕ) → read ≡ take k (drop from bytes) → IsFrontOf read (drop from bytes)
front_read from k read bytes is = record {
  rest = drop k (drop from bytes);
  whole_is = sym (take-append-drop k (drop from bytes)) ∙ ap (λ (l : List ℕ). l ++ drop k (drop from bytes)) (sym is);
}

pub returns-in-Err-clause-reads : goal.returns-in-Err-clause-reads
returns-in-Err-clause-reads g c = record {
  blocks = [];
  sizes = tt;
  within = omega (arith, c.requires.from);
  reached = tt;
  read = told_any (λ (bytes : List ℕ). IsFrontOf [] (drop c.args.self.from bytes)) (none_read c.args.self.from) c.args.self.file.now.path
      (g.T.Tree.files c.args.tree.now);
  tried = tried_short false (opens c.args.self.opening.again c.args.self.file.now c.args.self.opening.is_open)
      (adds c.args.self.file.now.path c.args.self.seen.now.head c.args.self.from []
      ++ ends c.args.self.file.now c.args.self.close) (g.C.Clock.ahead c.args.clock.now) (g.C.Clock.ahead c.open.new.clock)
      (λ (orders : List TimedCommand). Went g.D.Disk (kind g.M.StoreMemory.is_chooser g.M.StoreMemory.takes g.M.Book.ManifestState.fits
      g.M.StoreMemory.holds) (Err c.in-Err.fault) orders (change c.args.store.now c.args.disk.now c.open.new.store c.open.new.disk))
      c.in-Err.ensures;
}

pub returns-in-Err-fill-clause-reads : goal.returns-in-Err-fill-clause-reads
returns-in-Err-fill-clause-reads g c =
    let fills = c.in-Err-fill.ensures.fills in
    let blocks : List (List ℕ) = fills.blocks in
    record {
      blocks = blocks;
      sizes = fills.sizes;
      within = fills.within;
      reached = tt;
      read = fills.read;
      tried = subst (λ (l : List Command). Tried false l (g.C.Clock.ahead c.args.clock.now) (g.C.Clock.ahead c.fill.new.clock)
          (λ (orders : List TimedCommand). Went g.D.Disk (kind g.M.StoreMemory.is_chooser g.M.StoreMemory.takes g.M.Book.ManifestState.fits
          g.M.StoreMemory.holds) (gave_of {T = ℕ} (Err c.in-Err-fill.fault)) orders
          (change c.args.store.now c.args.disk.now c.fill.new.store c.fill.new.disk)))
          (append_assoc (opens c.args.self.opening.again c.args.self.file.now c.args.self.opening.is_open)
          (adds c.args.self.file.now.path c.args.self.seen.now.head c.args.self.from blocks)
          (ends c.args.self.file.now c.args.self.close))
          (tried_short true ((opens c.args.self.opening.again c.args.self.file.now c.args.self.opening.is_open)
          ++ (adds c.args.self.file.now.path c.args.self.seen.now.head c.args.self.from blocks))
          (ends c.args.self.file.now c.args.self.close) (g.C.Clock.ahead c.args.clock.now) (g.C.Clock.ahead c.fill.new.clock)
          (λ (orders : List TimedCommand). Went g.D.Disk (kind g.M.StoreMemory.is_chooser g.M.StoreMemory.takes g.M.Book.ManifestState.fits
          g.M.StoreMemory.holds) (gave_of {T = ℕ} (Err c.in-Err-fill.fault)) orders
          (change c.args.store.now c.args.disk.now c.fill.new.store c.fill.new.disk))
          (tried_on g.D.Disk g.M.StoreMemory.is_chooser g.M.StoreMemory.takes g.M.Book.ManifestState.fits g.M.StoreMemory.holds
          g.met.M.StoreMemory.ticks_are_taken true (gave_of {T = ℕ} (Err c.in-Err-fill.fault))
          (opens c.args.self.opening.again c.args.self.file.now c.args.self.opening.is_open)
          (adds c.args.self.file.now.path c.args.self.seen.now.head c.args.self.from blocks) (g.C.Clock.ahead c.args.clock.now)
          (g.C.Clock.ahead c.open.new.clock) (g.C.Clock.ahead c.fill.new.clock) c.args.store.now c.open.new.store c.fill.new.store
          c.args.disk.now c.open.new.disk c.fill.new.disk c.in-Ok.ensures fills.tried));
    }

pub returns-in-Ok-end_if-clause-reads : goal.returns-in-Ok-end_if-clause-reads
returns-in-Ok-end_if-clause-reads g c =
    let fills = c.in-Ok-fill.ensures.fills in
    let blocks : List (List ℕ) = fills.blocks in
    record {
      blocks = blocks;
      sizes = fills.sizes;
      within = fills.within;
      reached = fills.reached;
      read = fills.read;
      tried = tried_on g.D.Disk g.M.StoreMemory.is_chooser g.M.StoreMemory.takes g.M.Book.ManifestState.fits g.M.StoreMemory.holds
          g.met.M.StoreMemory.ticks_are_taken true (Ok tt)
          (opens c.args.self.opening.again c.args.self.file.now c.args.self.opening.is_open)
          ((adds c.args.self.file.now.path c.args.self.seen.now.head c.args.self.from blocks)
          ++ (ends c.args.self.file.now c.args.self.close)) (g.C.Clock.ahead c.args.clock.now) (g.C.Clock.ahead c.open.new.clock)
          (g.C.Clock.ahead c.end_if.new.clock) c.args.store.now c.open.new.store c.end_if.new.store c.args.disk.now c.open.new.disk
          c.end_if.new.disk c.in-Ok.ensures
          (tried_on g.D.Disk g.M.StoreMemory.is_chooser g.M.StoreMemory.takes g.M.Book.ManifestState.fits g.M.StoreMemory.holds
          g.met.M.StoreMemory.ticks_are_taken true (Ok tt)
          (adds c.args.self.file.now.path c.args.self.seen.now.head c.args.self.from blocks)
          (ends c.args.self.file.now c.args.self.close) (g.C.Clock.ahead c.open.new.clock) (g.C.Clock.ahead c.fill.new.clock)
          (g.C.Clock.ahead c.end_if.new.clock) c.open.new.store c.fill.new.store c.end_if.new.store c.open.new.disk c.fill.new.disk
          c.end_if.new.disk fills.tried c.in-Ok-end_if.ensures);
    }

pub returns-in-Err-end_if-clause-reads : goal.returns-in-Err-end_if-clause-reads
returns-in-Err-end_if-clause-reads g c =
    let fills = c.in-Ok-fill.ensures.fills in
    let blocks : List (List ℕ) = fills.blocks in
    record {
      blocks = blocks;
      sizes = fills.sizes;
      within = fills.within;
      reached = tt;
      read = told_one (λ (bytes : List ℕ). joined blocks ≡ take (c.args.self.seen.now.size - c.args.self.from)
          (drop c.args.self.from bytes)) (λ (bytes : List ℕ). IsFrontOf (joined blocks) (drop c.args.self.from bytes))
          (front_read c.args.self.from (c.args.self.seen.now.size - c.args.self.from) (joined blocks)) c.args.self.file.now.path
          (g.T.Tree.files c.args.tree.now) fills.read;
      tried = tried_some false ((opens c.args.self.opening.again c.args.self.file.now c.args.self.opening.is_open)
          ++ ((adds c.args.self.file.now.path c.args.self.seen.now.head c.args.self.from blocks)
          ++ (ends c.args.self.file.now c.args.self.close))) (g.C.Clock.ahead c.args.clock.now) (g.C.Clock.ahead c.end_if.new.clock)
          (λ (orders : List TimedCommand). Went g.D.Disk (kind g.M.StoreMemory.is_chooser g.M.StoreMemory.takes g.M.Book.ManifestState.fits
          g.M.StoreMemory.holds) (Err c.in-Err-end_if.fault) orders
          (change c.args.store.now c.args.disk.now c.end_if.new.store c.end_if.new.disk))
          (tried_on g.D.Disk g.M.StoreMemory.is_chooser g.M.StoreMemory.takes g.M.Book.ManifestState.fits g.M.StoreMemory.holds
          g.met.M.StoreMemory.ticks_are_taken true (Err c.in-Err-end_if.fault)
          (opens c.args.self.opening.again c.args.self.file.now c.args.self.opening.is_open)
          ((adds c.args.self.file.now.path c.args.self.seen.now.head c.args.self.from blocks)
          ++ (ends c.args.self.file.now c.args.self.close)) (g.C.Clock.ahead c.args.clock.now) (g.C.Clock.ahead c.open.new.clock)
          (g.C.Clock.ahead c.end_if.new.clock) c.args.store.now c.open.new.store c.end_if.new.store c.args.disk.now c.open.new.disk
          c.end_if.new.disk c.in-Ok.ensures
          (tried_on g.D.Disk g.M.StoreMemory.is_chooser g.M.StoreMemory.takes g.M.Book.ManifestState.fits g.M.StoreMemory.holds
          g.met.M.StoreMemory.ticks_are_taken true (Err c.in-Err-end_if.fault)
          (adds c.args.self.file.now.path c.args.self.seen.now.head c.args.self.from blocks)
          (ends c.args.self.file.now c.args.self.close) (g.C.Clock.ahead c.open.new.clock) (g.C.Clock.ahead c.fill.new.clock)
          (g.C.Clock.ahead c.end_if.new.clock) c.open.new.store c.fill.new.store c.end_if.new.store c.open.new.disk c.fill.new.disk
          c.end_if.new.disk fills.tried c.in-Err-end_if.ensures));
    }

pub open-requires-clause-begins : goal.open-requires-clause-begins
open-requires-clause-begins g c = c.requires.takes.begins

pub open-requires-clause-ends : goal.open-requires-clause-ends
open-requires-clause-ends g c = c.requires.takes.ends

pub fill-requires-clause-takes : goal.fill-requires-clause-takes
fill-requires-clause-takes g c = λ moment at bytes short.
    c.requires.takes.adds moment c.args.self.seen.now.head at bytes c.requires.short short

pub end_if-requires-clause-takes : goal.end_if-requires-clause-takes
end_if-requires-clause-takes g c = c.requires.takes.ends
