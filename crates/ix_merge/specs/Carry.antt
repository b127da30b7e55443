-- What is carried of lines over a stop.
use Rattle.std.specs.Prelude.{ℕ, Bool, if◌then◌else◌, List, map}
use Rattle.ix_merge.specs.Starts.{MarkedLine, last, is_held, is_forced}
use Rattle.ix_merge.specs.Events.{event_of, groups}
use Rattle.ix_merge.specs.Sizes.{nothing_open}
use Rattle.ix_merge.specs.declared.carry.MergeParts.{MergeParts}

-- with merging on: the last event, which is open, and the two marks that the next line is judged by
abbrev pub carry_of : Bool → ℕ → List MarkedLine → MergeParts
carry_of on max lines =
    if on then record { event = last (map event_of (groups max lines)); held = is_held lines; forced = is_forced lines }
    else nothing_open
