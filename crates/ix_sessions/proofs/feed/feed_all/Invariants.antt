use Rattle.std.proofs.Common.{◌≡◌, ◌≤◌, ℕ, List}
use Rattle.std.specs.List.{AllByRecursion}
use Rattle.ix_commit.specs.Snapshot.{LogsAtEnd, KnowsLogLength}
use Rattle.ix_net.specs.Links.{LinkStep}
use Rattle.ix_model.specs.Given.{Chooser}
use Rattle.ix_model.specs.declared.commands.TimedCommand.{TimedCommand}
use Rattle.ix_store.specs.Holding.{Represents}
use Rattle.ix_store.specs.Remembering.{Remembers}
use Rattle.ix_serve.specs.Serving.{IsTold}
use Rattle.ix_serve.specs.Kinds.{kind}
use Rattle.ix_sessions.specs.Feeding.{Reaches, start, coming, talk}
use Rattle.ix_sessions.specs.Reading.{ReadsOn}
use Rattle.ix_sessions.proofs.feed.feed_all.Given as goal

abbrev pub invariant-loop-served : goal.invariant-loop-served
invariant-loop-served g l = record {
  over : LogsAtEnd g.D.Disk l.store.committer l.disk;
  run : l.store.run ≡ l.fn.store.run;
  remembers : Remembers g.M.StoreMemory.is_chooser g.M.StoreMemory.takes g.M.StoreMemory.holds l.fn.store.memory l.store.memory;
  link_later : g.K.Link.faults l.fn.link ≤ g.K.Link.faults l.link;
  disk_later : g.D.Disk.faults l.fn.disk ≤ g.D.Disk.faults l.disk;
  measured : KnowsLogLength g.D.Disk l.fn.store.committer l.fn.disk → KnowsLogLength g.D.Disk l.store.committer l.disk;
  goes : LinkStep (g.K.Link.standing l.fn.link) (g.K.Link.standing l.link);
  told : IsTold g.D.Disk l.fn.disk → IsTold g.D.Disk l.disk;
  reads : ReadsOn l.served (g.K.Link.left l.fn.link) (g.K.Link.left l.link);
  reaches : (choose : Chooser) (h : List TimedCommand) (base k : ℕ) → g.M.StoreMemory.is_chooser choose →
      AllByRecursion g.M.StoreMemory.takes h →
      Represents g.D.Disk g.M.Book.ManifestState.fits g.M.StoreMemory.holds choose h base k l.fn.store l.fn.disk →
      Reaches g.D.Disk (kind g.M.StoreMemory.takes g.M.Book.ManifestState.fits g.M.StoreMemory.holds)
      (start choose h base k l.fn.store.run l.fn.disk) l.served
      (talk (coming (g.K.Link.left l.fn.link) (g.C.Clock.ahead l.fn.clock)) (g.K.Link.given l.fn.link))
      (talk (coming (g.K.Link.left l.link) (g.C.Clock.ahead l.clock)) (g.K.Link.given l.link)) l.store l.disk;
}
