-- Sizes of events that have a record wherever they go.
use Rattle.std.specs.Prelude.{◌<◌, ◌^◌, ℕ, List, length, IfSome}
use Rattle.ix_base.specs.declared.events.Event.{Event}
use Rattle.ix_base.specs.declared.events.Routed.{Routed}
use Rattle.ix_base.specs.declared.events.Routed.TheVariants.{To, Null}
use Rattle.ix_life.specs.declared.sets.LimitSet.{LimitSet}

abbrev pub IsBriefField : List ℕ → Type 0
IsBriefField text = length text < 2 ^ 24

pub record AreBriefFields (event : Event) : Type 0 where
  pub index : IsBriefField event.index
  pub host : IsBriefField event.host
  pub source : IsBriefField event.source
  pub sourcetype : IsBriefField event.sourcetype
  pub meta : IsBriefField event.meta
  pub raw : IsBriefField event.raw

abbrev pub IsBriefOutcome : Routed → Type 0
IsBriefOutcome (To event) = AreBriefFields event
IsBriefOutcome Null = Unit {0}

-- the index of events whose own is not configured has a name of fewer than 2^30 bytes
abbrev pub HasBriefChance : LimitSet → Type 0
HasBriefChance set = IfSome set.last_chance (λ (name : List ℕ). length name < 2 ^ 30)
