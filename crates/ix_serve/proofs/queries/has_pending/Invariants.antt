use Rattle.std.proofs.Common.{◌≡◌, drop}
use Rattle.std.specs.List.{list_any}
use Rattle.ix_commit.specs.Snapshot.{Snapshot}
use Rattle.ix_serve.specs.Entries.{Entry, IsAt, is_pending}
use Rattle.ix_serve.proofs.queries.has_pending.Given as goal

abbrev pub invariant-loop-number : goal.invariant-loop-number
invariant-loop-number g l =
    (e : Entry) (old : Snapshot) → IsAt g.M.Book.ManifestState.fits g.M.StoreMemory.holds e l.store old →
    list_any (is_pending e l.run) (drop l.number-index l.numbers) ≡ list_any (is_pending e l.run) l.numbers
