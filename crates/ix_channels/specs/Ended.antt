-- What the ends of channels come to, one behind the other.
use Rattle.std.specs.Prelude.{◌≡◌, List, map, Some}
use Rattle.std.specs.List.{All, AllByRecursion, AllZip, flat_map}
use Rattle.ix_base.specs.declared.events.Routed.{Routed}
use Rattle.ix_coding.specs.Spelling.{IsShort}
use Rattle.ix_items.specs.Spelling.{HasSpelling}
use Rattle.ix_items.specs.declared.items.Item.{Item}
use Rattle.ix_items.specs.declared.items.Item.TheVariants as items
use Rattle.ix_life.specs.declared.sets.LimitSet.{LimitSet}
use Rattle.ix_model.specs.State.{ChannelHistory}
use Rattle.ix_model.specs.Step.{end_adds}
use Rattle.ix_catalog.specs.Numbers.{HasRecord}
use Rattle.ix_state.specs.Held.{IsOpen}
use Rattle.ix_state.specs.declared.state.OpenChannel.{OpenChannel}
use Rattle.ix_channels.specs.declared.endings.Endings.{Endings}

-- the item of a channel in memory that ended
abbrev pub ended_item : OpenChannel → Item
ended_item o = items.Ended o.name

-- what the end of a life adds
abbrev pub life_adds : ChannelHistory → List Routed
life_adds life = end_adds (Some life)

abbrev pub HasShortName : ChannelHistory → Type 0
HasShortName life = IsShort life.name

-- These channels ended: each has its item, and of whatever lives they are, what these add is added.
pub record AreEnded (set : LimitSet) (ended : List OpenChannel) (endings : Endings) : Type 0 where
  pub proper : AllByRecursion HasSpelling endings.items.items
  pub small : All (HasRecord set) endings.outcomes.items
  pub said : endings.items.items ≡ map ended_item ended
  pub settles : (lives : List ChannelHistory) → AllZip IsOpen lives ended → endings.outcomes.items ≡ flat_map life_adds lives
