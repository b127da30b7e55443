-- What a line is found to match. From Splunk's Admin Manual, props.conf, line breaking.
use Rattle.std.specs.Prelude.{ℕ, Bool, false, ◌&&◌, ◌||◌, List, map, Option, Some, None, is_some}
use Rattle.ix_base.specs.declared.events.Line.{Line}
use Rattle.ix_merge.specs.Starts.{MarkedLine}
use Rattle.ix_merge.specs.declared.events.Marks.{Marks}
use Rattle.ix_pattern.specs.Rows.{Shape}
use Rattle.ix_props.specs.declared.settings.MergeSettings.{MergeSettings}
use Rattle.ix_props.specs.declared.settings.TimeSettings.{TimeSettings}
use Rattle.ix_time.specs.Times.{read}
use Rattle.ix_time.specs.Window.{place_of}

-- a pattern that is set matches somewhere in a text: its first match ends at some place
abbrev pub is_in : Option Shape → List ℕ → Bool
is_in None text = false
is_in (Some p) text = is_some (place_of (Some p) text)

-- a date reads in the line, whatever its age
abbrev pub has_date : TimeSettings → Line → Bool
has_date time line = is_some (read time line.bytes line.moment)

-- by the whole line; where lines are not merged nothing is asked
abbrev pub marks_of : MergeSettings → TimeSettings → Line → Marks
marks_of merge time line = record {
  wanted = merge.on && (is_in merge.before line.bytes || (merge.before_date && has_date time line));
  vetoed = merge.on && is_in merge.veto line.bytes;
  forces = merge.on && is_in merge.break_after line.bytes;
  holds = merge.on && is_in merge.hold_after line.bytes;
}

abbrev pub marked_line : MergeSettings → TimeSettings → Line → MarkedLine
marked_line merge time line = record { line = line; marks = marks_of merge time line }

abbrev pub marked : MergeSettings → TimeSettings → List Line → List MarkedLine
marked merge time lines = map (marked_line merge time) lines
