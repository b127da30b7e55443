-- What the steps of an export do.
use Rattle.std.specs.Prelude.{◌≡◌, ◌+◌, ℕ, List, [], ◌∷◌, length, Option}
use Rattle.ix_base.specs.declared.events.Event.{Event}
use Rattle.ix_base.specs.declared.events.Range.{Range}
use Rattle.ix_bucket.specs.Ahead.{between}
use Rattle.ix_bucket.specs.Record.{event_bytes, IsRecordOf}
use Rattle.ix_disk.specs.Image.{Image}
use Rattle.ix_export.specs.Lines.{HasExported}
use Rattle.ix_export.specs.Stored.{HasEvents}
use Rattle.ix_items.specs.declared.items.Bucket.{Bucket}

-- the bytes from the one place to the other are the record of an event, and the event was exported
pub record TakesEvent (range : Range) (at next : ℕ) (bytes : List ℕ) (given : Option (List ℕ)) (count : ℕ) (given' : Option (List ℕ))
    (count' : ℕ) : Type 0 where
  pub event : Event
  pub is_record : IsRecordOf (between at next bytes) event
  pub size : next ≡ at + length (event_bytes event)
  pub exported : HasExported range (event ∷ []) given count given' count'

-- all events of a bucket were exported
pub record TakesBucket (range : Range) (image : Image) (bucket : Bucket) (given : Option (List ℕ)) (count : ℕ) (given' : Option (List ℕ))
    (count' : ℕ) : Type 0 where
  pub events : List Event
  pub has : HasEvents image bucket events
  pub exported : HasExported range events given count given' count'
