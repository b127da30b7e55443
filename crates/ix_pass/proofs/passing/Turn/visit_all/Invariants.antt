use Rattle.std.proofs.Common.{◌≡◌, ◌≤◌, ℕ, List, true, length, take, map}
use Rattle.std.specs.Prelude.{Ok}
use Rattle.std.specs.List.{AllByRecursion}
use Rattle.ix_commit.specs.Snapshot.{LogsAtEnd}
use Rattle.ix_model.specs.Given.{Chooser}
use Rattle.ix_model.specs.declared.commands.TimedCommand.{TimedCommand}
use Rattle.ix_store.specs.Holding.{Represents}
use Rattle.ix_watch.specs.Passes.{Visit, file_of, lines, Asks, AreVisited}
use Rattle.ix_pass.specs.Giving.{Went, kind, change}
use Rattle.ix_pass.proofs.passing.Turn.visit_all.Given as goal

abbrev pub invariant-loop-file : goal.invariant-loop-file
invariant-loop-file g l = record {
  visits : List Visit;
  orders : List TimedCommand;
  files : map file_of visits ≡ take l.file-index l.files;
  asked : Asks orders (g.C.Clock.ahead l.initial.clock) (g.C.Clock.ahead l.clock);
  went : Went g.D.Disk (kind g.M.StoreMemory.is_chooser g.M.StoreMemory.takes g.M.Book.ManifestState.fits g.M.StoreMemory.holds) (Ok tt)
      orders (change l.initial.store l.initial.disk l.store l.disk);
  are : (choose : Chooser) (history : List TimedCommand) (base k : ℕ) → g.M.StoreMemory.is_chooser choose →
      AllByRecursion g.M.StoreMemory.takes history →
      Represents g.D.Disk g.M.Book.ManifestState.fits g.M.StoreMemory.holds choose history base k l.initial.store l.initial.disk →
      AreVisited choose (g.T.Tree.files l.initial.tree) l.self.close true history visits orders;
  text : l.text ≡ lines visits;
  over : LogsAtEnd g.D.Disk l.store.committer l.disk;
  room : length l.room ≡ 1048576;
  same : g.T.Tree.files l.tree ≡ g.T.Tree.files l.initial.tree;
  later : g.T.Tree.faults l.initial.tree ≤ g.T.Tree.faults l.tree;
  later_missing : g.T.Tree.missing l.initial.tree ≤ g.T.Tree.missing l.tree;
}
