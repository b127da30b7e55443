use Rattle.std.proofs.Common.{◌≡◌, ◌+◌, ◌++◌, [], ◌∷◌, ℕ, true, false, List, drop, refl, sym, ap, ◌∙◌}
use Rattle.std.proofs.Common.{subst, arith}
use Rattle.std.specs.Prelude.{Option, Result, Ok, Err, IsErrOf}
use Rattle.std.proofs.lemmas.Bool.{false≢true}
use Rattle.std.proofs.lemmas.List.{take-append-drop}
use Rattle.ix_disk.proofs.Runs.{rose_later}
use Rattle.ix_fs.specs.declared.trees.TreeFile.{TreeFile}
use Rattle.ix_monitor.specs.declared.watched.Watched.{Watched}
use Rattle.ix_model.specs.declared.commands.TimedCommand.{TimedCommand}
use Rattle.ix_run.specs.Giving.{given_all}
use Rattle.ix_run.specs.declared.giving.GiveFault.{GiveFault}
use Rattle.ix_watch.specs.Passes.{Visit, IsVisited}
use Rattle.ix_watch.specs.Visits.{visited_of}
use Rattle.ix_watch.specs.declared.visited.Visited.{Visited}
use Rattle.ix_pass.specs.Filling.{gave_of}
use Rattle.ix_pass.specs.Giving.{Went, kind, change}
use Rattle.ix_pass.specs.Passing.{MayVisit}
use Rattle.ix_pass.specs.declared.fault.PassFault.{PassFault}
use Rattle.ix_pass.specs.declared.fault.PassFault.TheVariants as stops
use Rattle.ix_pass.proofs.Going.{went_none, went_on, asks_on}
use Rattle.ix_pass.proofs.Joining.{is_visited, visits_more, visits_less, files_more, told_more, at_of, all_of, given_is}
use Rattle.ix_pass.proofs.passing.Turn.visit_all.Goals as goal

as_visit : (fault : PassFault) → IsErrOf {T = List ℕ} (Err fault) stops.Input → IsErrOf {T = Visited} (Err fault) stops.Input
as_visit fault is = ap (λ (f : PassFault). Err f) (inside is)
  where
    inside : (let result : Result (List ℕ) PassFault = Err fault in result ≡ Err stops.Input) → fault ≡ stops.Input
    inside e = cc

memory_gave : (fault : PassFault) → fault ≡ stops.Memory → gave_of {T = List ℕ} (Err fault) ≡ Ok tt
memory_gave fault is = ap (λ (f : PassFault). gave_of {T = List ℕ} (Err f)) is

not_input : (fault : PassFault) → fault ≡ stops.Memory → IsErrOf {T = List ℕ} (Err fault) stops.Input → ⊥
not_input fault is e = memory_input (sym is ∙ inside e)
  where
    inside : (let result : Result (List ℕ) PassFault = Err fault in result ≡ Err stops.Input) → fault ≡ stops.Input
    inside e = cc

    memory_input : stops.Memory ≡ stops.Input → ⊥
    memory_input e = cc

pub loop-file-init : goal.loop-file-init
loop-file-init g c = record {
  visits = [];
  orders = [];
  files = refl;
  asked = refl;
  went = went_none g.D.Disk g.M.StoreMemory.is_chooser g.M.StoreMemory.takes g.M.Book.ManifestState.fits g.M.StoreMemory.holds
      g.met.M.StoreMemory.ticks_are_taken c.args.store.now c.args.disk.now c.requires.over;
  are = λ choose h base k chooser taken hold. refl;
  text = c.new-text.ensures;
  over = c.requires.over;
  room = c.requires.room;
  same = refl;
  later = omega arith;
  later_missing = omega arith;
}

pub loop-file-preserved : goal.loop-file-preserved
loop-file-preserved g c =
    let i = c.loop-file.invariant in
    let vis = c.in-Ok.ensures.visits in
    let v : Visit = record { file = c.file-item.result; found = vis.found; came = visited_of vis.kept vis.found } in
    record {
      visits = i.visits ++ v ∷ [];
      orders = i.orders ++ vis.tried.orders;
      files = files_more i.visits v c.args.files.now c.loop-file.file-index c.file-item.is i.files c.loop-file-test.true;
      asked = asks_on i.orders vis.tried.orders (g.C.Clock.ahead c.args.clock.now) (g.C.Clock.ahead c.loop-file.clock)
          (g.C.Clock.ahead c.visit.new.clock) i.asked vis.tried.asked;
      went = went_on g.D.Disk g.M.StoreMemory.is_chooser g.M.StoreMemory.takes g.M.Book.ManifestState.fits g.M.StoreMemory.holds
          g.met.M.StoreMemory.ticks_are_taken (Ok tt) i.orders vis.tried.orders c.args.store.now c.loop-file.store c.visit.new.store
          c.args.disk.now c.loop-file.disk c.visit.new.disk i.went vis.tried.done;
      are = λ choose h base k chooser taken hold.
          let first = i.went.given choose h base k chooser taken hold in
          visits_more choose (g.T.Tree.files c.args.tree.now) c.args.self.close true h i.visits i.orders v vis.tried.orders
          (i.are choose h base k chooser taken hold)
          (subst (λ (history : List TimedCommand). IsVisited choose (g.T.Tree.files c.args.tree.now) c.args.self.close true history v
          vis.tried.orders) (given_is choose h i.orders)
          (subst (λ (files : Option (List TreeFile)). IsVisited choose files c.args.self.close true (given_all choose h i.orders) v
          vis.tried.orders) i.same
          (is_visited {E = PassFault} (Ok c.in-Ok.visited) choose (given_all choose h i.orders) (g.T.Tree.files c.loop-file.tree)
          c.file-item.result c.args.self.close (g.C.Clock.ahead c.loop-file.clock) (g.C.Clock.ahead c.visit.new.clock) _ _ vis
          (λ kept is_open known. known choose (given_all choose h i.orders) base first.count first.hold))));
      text = told_more i.visits v c.loop-file.text c.tell.new.text c.in-Ok.visited i.text c.in-Ok-tell.ensures.told vis.came;
      over = vis.tried.done.over refl;
      room = omega (arith, c.visit.auto.room, i.room);
      same = c.visit.ensures.same ∙ i.same;
      later = omega (arith, i.later, c.visit.ensures.later);
      later_missing = omega (arith, i.later_missing, c.visit.ensures.later_missing);
    }

pub returns-in-Err : goal.returns-in-Err
returns-in-Err g c =
    let i = c.loop-file.invariant in
    let vis = c.in-Err.ensures.visits in
    let v : Visit = record { file = c.file-item.result; found = vis.found; came = visited_of vis.kept vis.found } in
    let idx : ℕ = c.loop-file.file-index in
    record {
      visited = record {
        visits = i.visits ++ v ∷ [];
        orders = i.orders ++ vis.tried.orders;
        rest = drop (idx + 1) c.args.files.now;
        files_are = sym (take-append-drop (idx + 1) c.args.files.now)
            ∙ ap (λ (l : List Watched). l ++ drop (idx + 1) c.args.files.now)
            (sym (files_more i.visits v c.args.files.now idx c.file-item.is i.files c.loop-file-test.true));
        whole = λ e. absurd (false≢true e);
        asked = asks_on i.orders vis.tried.orders (g.C.Clock.ahead c.args.clock.now) (g.C.Clock.ahead c.loop-file.clock)
            (g.C.Clock.ahead c.visit.new.clock) i.asked vis.tried.asked;
        done = record {
          went = went_on g.D.Disk g.M.StoreMemory.is_chooser g.M.StoreMemory.takes g.M.Book.ManifestState.fits g.M.StoreMemory.holds
              g.met.M.StoreMemory.ticks_are_taken (gave_of {T = Visited} (Err c.in-Err.fault)) i.orders vis.tried.orders c.args.store.now
              c.loop-file.store c.visit.new.store c.args.disk.now c.loop-file.disk c.visit.new.disk i.went vis.tried.done;
          are = λ choose h base k chooser taken hold.
              (let first = i.went.given choose h base k chooser taken hold in
              visits_more choose (g.T.Tree.files c.args.tree.now) c.args.self.close false h i.visits i.orders v vis.tried.orders
              (i.are choose h base k chooser taken hold)
              (subst (λ (history : List TimedCommand). IsVisited choose (g.T.Tree.files c.args.tree.now) c.args.self.close false history v
              vis.tried.orders) (given_is choose h i.orders)
              (subst (λ (files : Option (List TreeFile)).
              IsVisited choose files c.args.self.close false (given_all choose h i.orders) v vis.tried.orders) i.same
              (is_visited {E = PassFault} (Err c.in-Err.fault) choose (given_all choose h i.orders) (g.T.Tree.files c.loop-file.tree)
              c.file-item.result c.args.self.close (g.C.Clock.ahead c.loop-file.clock) (g.C.Clock.ahead c.visit.new.clock) _ _ vis
              (λ kept is_open known. known choose (given_all choose h i.orders) base first.count first.hold)))));
          text = tt;
        };
      };
      failed = λ is. rose_later (g.T.Tree.faults c.args.tree.now) (g.T.Tree.faults c.loop-file.tree) (g.T.Tree.faults c.visit.new.tree)
          i.later (c.in-Err.ensures.failed (as_visit c.in-Err.fault is));
      same = c.visit.ensures.same ∙ i.same;
      later = omega (arith, i.later, c.visit.ensures.later);
      later_missing = omega (arith, i.later_missing, c.visit.ensures.later_missing);
    }

pub returns-in-Err-tell : goal.returns-in-Err-tell
returns-in-Err-tell g c =
    let i = c.loop-file.invariant in
    let vis = c.in-Ok.ensures.visits in
    let v : Visit = record { file = c.file-item.result; found = vis.found; came = visited_of vis.kept vis.found } in
    let idx : ℕ = c.loop-file.file-index in
    record {
      visited = record {
        visits = i.visits ++ v ∷ [];
        orders = i.orders ++ vis.tried.orders;
        rest = drop (idx + 1) c.args.files.now;
        files_are = sym (take-append-drop (idx + 1) c.args.files.now)
            ∙ ap (λ (l : List Watched). l ++ drop (idx + 1) c.args.files.now)
            (sym (files_more i.visits v c.args.files.now idx c.file-item.is i.files c.loop-file-test.true));
        whole = λ e. absurd (false≢true e);
        asked = asks_on i.orders vis.tried.orders (g.C.Clock.ahead c.args.clock.now) (g.C.Clock.ahead c.loop-file.clock)
            (g.C.Clock.ahead c.visit.new.clock) i.asked vis.tried.asked;
        done = record {
          went = subst (λ (r : Result Unit GiveFault). Went g.D.Disk (kind g.M.StoreMemory.is_chooser g.M.StoreMemory.takes
              g.M.Book.ManifestState.fits g.M.StoreMemory.holds) r (i.orders ++ vis.tried.orders)
              (change c.args.store.now c.args.disk.now c.visit.new.store c.visit.new.disk))
              (sym (memory_gave c.in-Err-tell.fault c.in-Err-tell.ensures.memory))
              (went_on g.D.Disk g.M.StoreMemory.is_chooser g.M.StoreMemory.takes g.M.Book.ManifestState.fits g.M.StoreMemory.holds
              g.met.M.StoreMemory.ticks_are_taken (Ok tt) i.orders vis.tried.orders c.args.store.now c.loop-file.store c.visit.new.store
              c.args.disk.now c.loop-file.disk c.visit.new.disk i.went vis.tried.done);
          are = λ choose h base k chooser taken hold.
              (let first = i.went.given choose h base k chooser taken hold in
              visits_less choose (g.T.Tree.files c.args.tree.now) c.args.self.close true h (i.visits ++ v ∷ []) (i.orders
              ++ vis.tried.orders)
              (visits_more choose (g.T.Tree.files c.args.tree.now) c.args.self.close true h i.visits i.orders v vis.tried.orders
              (i.are choose h base k chooser taken hold)
              (subst (λ (history : List TimedCommand). IsVisited choose (g.T.Tree.files c.args.tree.now) c.args.self.close true history v
              vis.tried.orders) (given_is choose h i.orders)
              (subst (λ (files : Option (List TreeFile)).
              IsVisited choose files c.args.self.close true (given_all choose h i.orders) v vis.tried.orders) i.same
              (is_visited {E = PassFault} (Ok c.in-Ok.visited) choose (given_all choose h i.orders) (g.T.Tree.files c.loop-file.tree)
              c.file-item.result c.args.self.close (g.C.Clock.ahead c.loop-file.clock) (g.C.Clock.ahead c.visit.new.clock) _ _ vis
              (λ kept is_open known. known choose (given_all choose h i.orders) base first.count first.hold))))));
          text = tt;
        };
      };
      failed = λ is. absurd (not_input c.in-Err-tell.fault c.in-Err-tell.ensures.memory is);
      same = c.visit.ensures.same ∙ i.same;
      later = omega (arith, i.later, c.visit.ensures.later);
      later_missing = omega (arith, i.later_missing, c.visit.ensures.later_missing);
    }

pub visit-requires-clause-takes : goal.visit-requires-clause-takes
visit-requires-clause-takes g c = subst (MayVisit g.M.StoreMemory.takes) (sym c.file-item.is)
    (at_of (MayVisit g.M.StoreMemory.takes) c.args.files.now c.loop-file.file-index c.file-item.result c.requires.takes
    c.loop-file-test.true)

pub returns-clause-visited : goal.returns-clause-visited
returns-clause-visited g c =
    let i = c.loop-file.invariant in record {
      visits = i.visits;
      orders = i.orders;
      rest = [];
      files_are = all_of i.visits c.args.files.now c.loop-file.file-index (omega (arith, c.loop-file-test.false)) i.files;
      whole = λ e. refl;
      asked = i.asked;
      done = record { went = i.went; are = i.are; text = i.text };
    }
