use Rattle.std.proofs.Common.{◌≡◌, ◌≤◌, ◌+◌, ◌-◌, ℕ, true, List, length}
use Rattle.std.specs.Prelude.{IfSome, Ok}
use Rattle.std.specs.List.{AllByRecursion}
use Rattle.ix_commit.specs.Snapshot.{LogsAtEnd}
use Rattle.ix_fs.specs.Trees.{bytes_at}
use Rattle.ix_pass.specs.Giving.{Tried, Went, kind, change}
use Rattle.ix_watch.specs.Visits.{joined, adds, IsFull}
use Rattle.ix_pass.proofs.Filled.{Came}
use Rattle.ix_pass.proofs.filling.Watch.fill.Given as goal

abbrev pub invariant-loop-at : goal.invariant-loop-at
invariant-loop-at g l = record {
  blocks : List (List ℕ);
  full : AllByRecursion IsFull blocks;
  count : l.at ≡ l.from + length (joined blocks);
  within : l.at ≤ l.self.size;
  read : IfSome (g.T.Tree.files l.initial.tree) (λ all. IfSome (bytes_at all l.self.path.now) (Came l.from l.at (joined blocks)));
  tried : Tried true (adds l.self.path.now l.self.head.now l.from blocks) (g.C.Clock.ahead l.initial.clock) (g.C.Clock.ahead l.clock)
      (λ orders. Went g.D.Disk (kind g.M.StoreMemory.is_chooser g.M.StoreMemory.takes g.M.Book.ManifestState.fits g.M.StoreMemory.holds)
      (Ok tt) orders (change l.initial.store l.initial.disk l.store l.disk));
  over : LogsAtEnd g.D.Disk l.store.committer l.disk;
  room : length l.room ≡ 1048576;
  same : g.T.Tree.files l.tree ≡ g.T.Tree.files l.initial.tree;
  later : g.T.Tree.faults l.initial.tree ≤ g.T.Tree.faults l.tree;
  later_missing : g.T.Tree.missing l.initial.tree ≤ g.T.Tree.missing l.tree;
}

abbrev pub decreases-loop-at : goal.decreases-loop-at
decreases-loop-at g l = l.self.size - l.at
