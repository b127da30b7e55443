use Rattle.std.proofs.Common.{◌≡◌, ◌≤◌, ℕ, List}
use Rattle.std.specs.List.{AllByRecursion}
use Rattle.ix_commit.specs.Snapshot.{LogsAtEnd, KnowsLogLength}
use Rattle.ix_model.specs.Given.{Chooser}
use Rattle.ix_model.specs.declared.commands.TimedCommand.{TimedCommand}
use Rattle.ix_store.specs.Holding.{Represents}
use Rattle.ix_store.specs.Remembering.{Remembers}
use Rattle.ix_serve.specs.Serving.{IsTold}
use Rattle.ix_sessions.specs.Connections.{Visits, listened, hearing}
use Rattle.ix_serve.specs.Kinds.{kind}
use Rattle.ix_sessions.specs.Feeding.{start}
use Rattle.ix_sessions.specs.Reading.{HearsMany}
use Rattle.ix_sessions.proofs.serve.serve_all.Given as goal

abbrev pub invariant-loop-served : goal.invariant-loop-served
invariant-loop-served g l = record {
  over : LogsAtEnd g.D.Disk l.store.committer l.disk;
  run : l.store.run ≡ l.fn.store.run;
  remembers : Remembers g.M.StoreMemory.is_chooser g.M.StoreMemory.takes g.M.StoreMemory.holds l.fn.store.memory l.store.memory;
  listener_later : g.L.Listener.faults l.fn.listener ≤ g.L.Listener.faults l.listener;
  disk_later : g.D.Disk.faults l.fn.disk ≤ g.D.Disk.faults l.disk;
  out : g.L.Listener.out l.listener ≡ g.L.Listener.out l.fn.listener;
  measured : KnowsLogLength g.D.Disk l.fn.store.committer l.fn.disk → KnowsLogLength g.D.Disk l.store.committer l.disk;
  told : IsTold g.D.Disk l.fn.disk → IsTold g.D.Disk l.disk;
  hears : HearsMany (λ n. n ≡ l._served) (listened (g.L.Listener.waiting l.fn.listener) (g.L.Listener.handed l.fn.listener))
      (listened (g.L.Listener.waiting l.listener) (g.L.Listener.handed l.listener));
  visits : (choose : Chooser) (h : List TimedCommand) (base k : ℕ) → g.M.StoreMemory.is_chooser choose →
      AllByRecursion g.M.StoreMemory.takes h →
      Represents g.D.Disk g.M.Book.ManifestState.fits g.M.StoreMemory.holds choose h base k l.fn.store l.fn.disk →
      Visits g.D.Disk (kind g.M.StoreMemory.takes g.M.Book.ManifestState.fits g.M.StoreMemory.holds)
      (start choose h base k l.fn.store.run l.fn.disk) l._served
      (hearing (listened (g.L.Listener.waiting l.fn.listener) (g.L.Listener.handed l.fn.listener)) (g.C.Clock.ahead l.fn.clock))
      (hearing (listened (g.L.Listener.waiting l.listener) (g.L.Listener.handed l.listener)) (g.C.Clock.ahead l.clock)) l.store l.disk;
}
