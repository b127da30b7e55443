-- What a value stands for.
use Rattle.std.specs.Prelude.{◌≡◌, ℕ, Bool, false, List, [], ◌∷◌, ◌++◌, Option}
use Rattle.std.specs.Option.{option_to_list}
use Rattle.ix_merge.specs.Starts.{MarkedLine}
use Rattle.ix_merge.specs.Events.{settled, all_events}
use Rattle.ix_merge.specs.Carry.{carry_of}
use Rattle.ix_merge.specs.declared.events.Whole.{Whole}
use Rattle.ix_merge.specs.declared.carry.MergeParts.{MergeParts}

-- what a value is to its callers
pub record Merging : Type 0 where
  -- whether lines are merged, and how many an event has at most
  pub on : Bool
  pub max_lines : ℕ
  -- the open event and the two marks
  pub parts : MergeParts
  -- a call found no room, and the value stands for no lines
  pub broken : Bool

-- the value has taken in these lines
pub record Holds (lines : List MarkedLine) (merge : Merging) : Type 0 where
  pub parts : merge.parts ≡ carry_of merge.on merge.max_lines lines
  pub whole : merge.broken ≡ false

-- a line more: the value stands for the longer list, and the event that the line ends was answered
pub record Adds (lines : List MarkedLine) (m : MarkedLine) (old new : Merging) (ended : Option Whole) : Type 0 where
  pub holds : Holds (lines ++ m ∷ []) new
  pub settles : settled old.on old.max_lines (lines ++ m ∷ []) ≡ settled old.on old.max_lines lines ++ option_to_list ended

-- the end of the lines: the event that it ends was answered
abbrev pub Ends : List MarkedLine → Merging → Option Whole → Type 0
Ends lines merge ended = all_events merge.on merge.max_lines lines ≡ settled merge.on merge.max_lines lines ++ option_to_list ended
