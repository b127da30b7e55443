use Rattle.std.proofs.Common.{◌≡◌, ◌≤◌, ◌-◌, ℕ, List, length, map}
use Rattle.std.specs.List.{AllByRecursion}
use Rattle.ix_base.specs.Told.{Told, Took}
use Rattle.ix_commit.specs.Contents.{Anyhow}
use Rattle.ix_commit.specs.Snapshot.{LogsAtEnd, KnowsLogLength}
use Rattle.ix_model.specs.Given.{Chooser}
use Rattle.ix_model.specs.declared.commands.TimedCommand.{TimedCommand}
use Rattle.ix_store.specs.Holding.{Represents}
use Rattle.ix_run.specs.Giving.{HasGivenAll}
use Rattle.ix_run.specs.Storing.{block_order, joined, IsBlock, input_limit}
use Rattle.ix_run.specs.Running.{outset}
use Rattle.ix_run.proofs.input.Stream.fill.Given as goal

abbrev pub invariant-loop-taken : goal.invariant-loop-taken
invariant-loop-taken g l = record {
  within : l.taken ≤ input_limit;
  pieces : List (List ℕ);
  count : length (joined pieces) ≡ l.taken;
  sizes : AllByRecursion IsBlock pieces;
  took : Told (Took (joined pieces)) (g.S.Source.left l.initial.input) (g.S.Source.left l.input);
  given : (choose : Chooser) (history : List TimedCommand) (base k : ℕ) → g.M.StoreMemory.is_chooser choose →
      AllByRecursion g.M.StoreMemory.takes history →
      Represents g.D.Disk g.M.Book.ManifestState.fits g.M.StoreMemory.holds choose history base k l.initial.store l.initial.disk →
      HasGivenAll g.D.Disk g.M.Book.ManifestState.fits g.M.StoreMemory.holds
      (outset choose history base k l.initial.store.run l.initial.disk) (map (block_order l.self.moment) pieces) l.store l.disk;
  over : LogsAtEnd g.D.Disk l.store.committer l.disk;
  measured : KnowsLogLength g.D.Disk l.initial.store.committer l.initial.disk → KnowsLogLength g.D.Disk l.store.committer l.disk;
  told : Told Anyhow (g.D.Disk.seen l.initial.disk) (g.D.Disk.seen l.disk);
  later : g.D.Disk.faults l.initial.disk ≤ g.D.Disk.faults l.disk;
  read_later : g.S.Source.faults l.initial.input ≤ g.S.Source.faults l.input;
}

abbrev pub decreases-loop-taken : goal.decreases-loop-taken
decreases-loop-taken g l = input_limit - l.taken
