-- Where the record of an event has fewer than 2^32 bytes.
use Rattle.std.proofs.Common.{◌≡◌, ℕ, ◌+◌, ◌<◌, ◌^◌, List, length, Option, None, Some, arith}
use Rattle.std.specs.Prelude.{IfSome}
use Rattle.ix_base.specs.declared.events.Event.{Event}
use Rattle.ix_bucket.specs.Record.{fields}
use Rattle.ix_bucket.proofs.Sizes.{length_fields, length_event_bytes}
use Rattle.ix_life.specs.Limits.{route}
use Rattle.ix_life.specs.declared.sets.LimitSet.{LimitSet}
use Rattle.ix_life.specs.declared.sets.Route.{Route}
use Rattle.ix_life.specs.declared.sets.Route.TheVariants.{Given, LastChance, Nowhere}
use Rattle.ix_catalog.specs.Buckets.{size, named}
use Rattle.ix_catalog.specs.Dealing.{home_by}
use Rattle.ix_catalog.specs.Numbers.{HasRecordIn, beside_index, SmallHasRecord}

in_index : (event : Event) (name : List ℕ) → beside_index event < 2 ^ 31 → length name < 2 ^ 30 → size (named name event) < 2 ^ 32
in_index event name b n =
    let e : size (named name event) ≡ 4 + length (fields (named name event)) = length_event_bytes (named name event) in
    let f = length_fields (named name event) in
    omega (arith, e, f, b, n)

in_last_chance : (event : Event) (o : Option (List ℕ)) → beside_index event < 2 ^ 31 → IfSome o (λ name. length name < 2 ^ 30) →
    HasRecordIn event o
in_last_chance event None b n = tt
in_last_chance event (Some name) b n = in_index event name b n

by_route : (r : Route) (set : LimitSet) (event : Event) → beside_index event < 2 ^ 31 → length event.index < 2 ^ 30 →
    IfSome set.last_chance (λ name. length name < 2 ^ 30) →
    HasRecordIn event (home_by r set event.index)
by_route Given set event b n m = in_index event event.index b n
by_route LastChance set event b n m = in_last_chance event set.last_chance b m
by_route Nowhere set event b n m = tt

pub small_has_record : SmallHasRecord
small_has_record set event b n m = by_route (route set event.index) set event b n m
