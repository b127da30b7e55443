-- The bytes of events in a bucket's file.
use Rattle.std.specs.Prelude.{◌≡◌, ℕ, List, ◌++◌}
use Rattle.std.specs.List.{flat_map}
use Rattle.ix_coding.specs.Spelling.{signed, string, IsSigned64, IsShort}
use Rattle.ix_base.specs.declared.events.Event.{Event}

-- two moments and six strings
unfoldable pub fields : Event → List ℕ
fields event =
    signed event.time ++ signed event.arrival ++ string event.index ++ string event.host ++ string event.source
    ++ string event.sourcetype ++ string event.meta ++ string event.raw

-- the record of an event: the length of its fields, and its fields
unfoldable pub event_bytes : Event → List ℕ
event_bytes event = string (fields event)

-- records one behind the other
abbrev pub records : List Event → List ℕ
records events = flat_map event_bytes events

-- what has a record: moments of 64 bits, and fields of fewer than 2 ^ 32 bytes together
pub record IsInRange (event : Event) : Type 0 where
  pub time : IsSigned64 event.time
  pub arrival : IsSigned64 event.arrival
  pub size : IsShort (fields event)

-- the bytes are the record of the event
pub record IsRecordOf (bytes : List ℕ) (event : Event) : Type 0 where
  pub in_range : IsInRange event
  pub spelled : bytes ≡ event_bytes event
