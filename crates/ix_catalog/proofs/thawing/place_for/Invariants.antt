use Rattle.std.proofs.Common.{◌≡◌, ◌++◌, take, drop}
use Rattle.ix_items.specs.declared.items.Bucket.{Bucket}
use Rattle.ix_catalog.specs.Turning.{insert_id}
use Rattle.ix_catalog.proofs.thawing.place_for.Given as goal

abbrev pub invariant-loop-at : goal.invariant-loop-at
invariant-loop-at l = (b : Bucket) → b.id ≡ l.id → take l.at l.list ++ insert_id b (drop l.at l.list) ≡ insert_id b l.list
