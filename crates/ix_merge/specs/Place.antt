-- One line more, by the open event and the marks alone.
use Rattle.std.specs.Prelude.{ℕ, ◌≡◌, ◌+◌, Bool, true, not, ◌&&◌, ◌||◌, if◌then◌else◌, nat_lt, nat_le, List, [], ◌∷◌, ◌++◌, length, Option}
use Rattle.std.specs.Prelude.{Some, None}
use Rattle.ix_base.specs.declared.events.Line.{Line}
use Rattle.std.specs.Option.{option_to_list}
use Rattle.ix_merge.specs.Starts.{MarkedLine}
use Rattle.ix_merge.specs.Events.{event_of, settled}
use Rattle.ix_merge.specs.Carry.{carry_of}
use Rattle.ix_merge.specs.declared.events.Marks.{Marks}
use Rattle.ix_merge.specs.declared.events.Whole.{Whole}
use Rattle.ix_merge.specs.declared.carry.MergeParts.{MergeParts}

-- the event may have this line too
abbrev pub fits : ℕ → Whole → Line → Bool
fits max event line = nat_lt event.lines max && nat_le (length (event.raw ++ 10 ∷ line.bytes)) 4194304

abbrev pub joined : Whole → Line → Whole
joined event line = record { raw = event.raw ++ 10 ∷ line.bytes; moment = event.moment; lines = event.lines + 1 }

-- the line starts an event, by the marks that stand
abbrev pub starts_by : MergeParts → Marks → Bool
starts_by parts marks = parts.forced || (marks.wanted && not marks.vetoed && not parts.held)

-- the event that is open then, and the one that the line ends
abbrev pub placed : ℕ → Bool → Option Whole → Line → Option Whole × Option Whole
placed max begins None line = (Some (event_of (line ∷ [])), None)
placed max begins (Some event) line =
    if not begins && fits max event line then (Some (joined event line), None) else (Some (event_of (line ∷ [])), Some event)

-- the marks behind the line
abbrev pub passed : MergeParts → Marks → MergeParts
passed parts marks = record parts { held = not marks.forces && (marks.holds || parts.held); forced = marks.forces }

-- with merging on: these are the parts behind one line more, which ends this event
pub record Takes (max : ℕ) (lines : List MarkedLine) (m : MarkedLine) (parts : MergeParts) (ended : Option Whole) : Type 0 where
  pub carried : parts ≡ carry_of true max (lines ++ m ∷ [])
  pub settles : settled true max (lines ++ m ∷ []) ≡ settled true max lines ++ option_to_list ended
