-- The sizes of events and of what is carried.
use Rattle.std.specs.Prelude.{◌≡◌, ℕ, ◌≤◌, Bool, false, length, None}
use Rattle.std.specs.Bool.{OnFalse}
use Rattle.std.specs.Option.{ForSome}
use Rattle.ix_merge.specs.declared.events.Whole.{Whole}
use Rattle.ix_merge.specs.declared.carry.MergeParts.{MergeParts}

-- at least one line, at most so many, and at most 2^22 bytes
pub record IsSized (max : ℕ) (event : Whole) : Type 0 where
  pub some_line : 1 ≤ event.lines
  pub few_lines : event.lines ≤ max
  pub few_bytes : length event.raw ≤ 4194304

-- no event is open, and nothing is marked
abbrev pub nothing_open : MergeParts
nothing_open = record { event = None; held = false; forced = false }

-- parts have this form
pub record HasForm (on : Bool) (max : ℕ) (parts : MergeParts) : Type 0 where
  pub sized : ForSome parts.event (λ event. IsSized max event)
  pub off : OnFalse on (parts ≡ nothing_open)
