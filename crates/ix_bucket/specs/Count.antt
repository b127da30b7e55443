-- The records that a file begins with.
use Rattle.std.specs.Prelude.{◌≡◌, ℕ, List, length, take}
use Rattle.std.specs.List.{AllByRecursion}
use Rattle.ix_base.specs.declared.events.Event.{Event}
use Rattle.ix_bucket.specs.Record.{records, IsInRange}

-- the bytes begin with the records of these events, which end at the place
pub record HasRecords (events : List Event) (until : ℕ) (bytes : List ℕ) : Type 0 where
  pub in_range : AllByRecursion IsInRange events
  pub size : length (records events) ≡ until
  pub spelled : take until bytes ≡ records events
