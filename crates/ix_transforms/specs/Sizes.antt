-- How large an event is behind its changes, and when it happened.
use Rattle.std.specs.Prelude.{◌≡◌, ◌≤◌, length}
use Rattle.ix_base.specs.declared.events.Event.{Event}
use Rattle.ix_base.specs.declared.events.Routed.{Routed}
use Rattle.ix_base.specs.declared.events.Routed.TheVariants.{To, Null}
use Rattle.ix_transforms.specs.Seds.{raw_limit}

-- the fields but for the raw text have no more bytes than a transform writes
pub record KeepsSizes (event : Event) : Type 0 where
  pub index : length event.index ≤ 4096
  pub host : length event.host ≤ 4096
  pub source : length event.source ≤ 4096
  pub sourcetype : length event.sourcetype ≤ 4096
  pub meta : length event.meta ≤ 65535

-- an event that is kept has a raw text of at most so many bytes, and its other fields keep their
-- sizes where they did before
abbrev pub HasSizes : Event → Routed → Type 0
HasSizes before (To event) = (length event.raw ≤ raw_limit) × (KeepsSizes before → KeepsSizes event)
HasSizes before Null = Unit {0}

-- an event that is kept has the time and the arrival that it had
abbrev pub HasMoments : Event → Routed → Type 0
HasMoments before (To event) = (event.time ≡ before.time) × (event.arrival ≡ before.arrival)
HasMoments before Null = Unit {0}
