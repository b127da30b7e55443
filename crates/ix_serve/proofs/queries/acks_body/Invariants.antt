use Rattle.std.proofs.Common.{◌≡◌, ◌++◌, [], drop, map, codes}
use Rattle.ix_commit.specs.Snapshot.{Snapshot}
use Rattle.ix_serve.specs.Entries.{Entry, IsAt, is_acked}
use Rattle.ix_serve.proofs.Asking.{values_behind}
use Rattle.ix_serve.proofs.queries.acks_body.Given as goal

abbrev pub invariant-loop-number : goal.invariant-loop-number
invariant-loop-number g l =
    (e : Entry) (old : Snapshot) → IsAt g.M.Book.ManifestState.fits g.M.StoreMemory.holds e l.store old →
    l.body ++ values_behind l.before (map (is_acked e l.run) (drop l.number-index l.numbers)) ≡ codes "{\"acks\":["
    ++ values_behind [] (map (is_acked e l.run) l.numbers)
