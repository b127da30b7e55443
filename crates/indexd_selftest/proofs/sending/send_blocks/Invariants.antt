use Rattle.std.proofs.Common.{◌≡◌, ℕ, List, ◌++◌, length, map}
use Rattle.ix_commit.specs.Snapshot.{LogsAtEnd}
use Rattle.ix_model.specs.Given.{Chooser}
use Rattle.ix_model.specs.declared.commands.TimedCommand.{TimedCommand}
use Rattle.ix_run.specs.Giving.{given_all}
use Rattle.ix_serve.specs.Serving.{IsTold}
use Rattle.indexd_selftest.specs.Blocks.{AreCut, left}
use Rattle.indexd_selftest.specs.Given.{RepresentsAll}
use Rattle.indexd_selftest.specs.History.{sent_block}
use Rattle.indexd_selftest.proofs.sending.send_blocks.Given as goal

abbrev pub invariant-loop-block : goal.invariant-loop-block
invariant-loop-block g l = record {
  over : LogsAtEnd g.D.Disk l.store.committer l.disk;
  told : IsTold g.D.Disk l.disk;
  run : l.store.run ≡ l.initial.store.run;
  blocks : List (List ℕ);
  cut : (more : List (List ℕ)) → AreCut l.generator.x (left l.generator) more →
      AreCut l.initial.generator.x (left l.initial.generator) (blocks ++ more);
  given : (choose : Chooser) (history : List TimedCommand) (base : ℕ) → g.M.StoreMemory.is_chooser choose →
      RepresentsAll g.D.Disk g.M.StoreMemory.takes g.M.Book.ManifestState.fits g.M.StoreMemory.holds choose history base l.initial.store
      l.initial.disk →
      RepresentsAll g.D.Disk g.M.StoreMemory.takes g.M.Book.ManifestState.fits g.M.StoreMemory.holds choose
      (given_all choose history (map sent_block blocks)) base l.store l.disk;
}

abbrev pub decreases-loop-block : goal.decreases-loop-block
decreases-loop-block g l = length (left l.generator)
