-- Which events the commands of a history add to an index, and where these lie.
use Rattle.std.specs.Prelude.{◌≡◌, ◌<◌, ◌==◌, ℕ, if◌then◌else◌, List, [], ◌∷◌, ◌++◌, length, map, Option, Some, None, slice_get, unwrap_or}
use Rattle.std.specs.Prelude.{bytes_eq}
use Rattle.std.specs.List.{AllByRecursion, flat_map}
use Rattle.ix_base.specs.declared.events.Event.{Event}
use Rattle.ix_base.specs.declared.events.Routed.{Routed}
use Rattle.ix_base.specs.declared.events.Routed.TheVariants.{To, Null}
use Rattle.ix_items.specs.declared.items.Kept.{Kept}
use Rattle.ix_model.specs.Buckets.{Slot}
use Rattle.ix_model.specs.Given.{Chooser, home}
use Rattle.ix_model.specs.State.{State, empty}
use Rattle.ix_model.specs.Step.{outcomes, effective, step}
use Rattle.ix_catalog.specs.Buckets.{named}
use Rattle.ix_model.specs.declared.commands.TimedCommand.{TimedCommand}

-- ---- what is dealt to an index

-- the event as it is stored, where the index of this name is its home
abbrev pub stored_at : List ℕ → Event → Option (List ℕ) → List Event
stored_at name event None = []
stored_at name event (Some index) = if bytes_eq index name then named index event ∷ [] else []

abbrev pub dealt_by : List Kept → List ℕ → Routed → List Event
dealt_by force name (To event) = stored_at name event (home force event.index)
dealt_by force name Null = []

abbrev pub all_dealt : List Kept → List ℕ → List Routed → List Event
all_dealt force name routed = flat_map (dealt_by force name) routed

-- the events that the commands add with this home, in order
abbrev pub dealt_from : Chooser → State → List TimedCommand → List ℕ → List Event
dealt_from choose m [] name = []
dealt_from choose m (o ∷ history) name =
    all_dealt m.force name (outcomes choose m o.command (effective m.last o.moment)) ++ dealt_from choose (step choose m o) history name

abbrev pub dealt : Chooser → List TimedCommand → List ℕ → List Event
dealt choose history name = dealt_from choose empty history name

-- ---- where they lie

-- the events of the buckets, by the numbers of these
abbrev pub contents : List Slot → List (List Event)
contents slots = map (λ (s : Slot). s.events) slots

abbrev pub part : ℕ → List (List Event) → List Event
part k parts = unwrap_or (slice_get parts k) []

-- those of the events that went to place k
abbrev pub picked : ℕ → List ℕ → List Event → List Event
picked k [] events = []
picked k (place ∷ places) [] = []
picked k (place ∷ places) (e ∷ events) = if place == k then e ∷ picked k places events else picked k places events

-- each of the events went into one of the parts, and each part has those that went into it, in
-- order
pub record AreSplit (events : List Event) (parts : List (List Event)) : Type 0 where
  pub places : List ℕ
  pub as_many : length places ≡ length events
  pub within : AllByRecursion (λ k. k < length parts) places
  pub each : (k : ℕ) → part k parts ≡ picked k places events
