-- The bytes of what is carried of a channel.
use Rattle.std.specs.Prelude.{ℕ, List, ◌++◌, length}
use Rattle.std.specs.List.{flat_map}
use Rattle.ix_base.specs.declared.events.Line.{Line}
use Rattle.ix_coding.specs.Spelling.{byte, four, signed, flag, string, option}
use Rattle.ix_lines.specs.declared.carry.LineParts.{LineParts}
use Rattle.ix_merge.specs.declared.events.Whole.{Whole}
use Rattle.ix_merge.specs.declared.carry.MergeParts.{MergeParts}
use Rattle.ix_parse.specs.declared.carry.Carry.{Carry}

-- bytes behind their moment
unfoldable pub line_bytes : Line → List ℕ
line_bytes line = signed line.moment ++ string line.bytes

-- the pending bytes: how many runs there are, and the runs
unfoldable pub runs_bytes : List Line → List ℕ
runs_bytes runs = four (length runs) ++ flat_map line_bytes runs

-- an open event: its moment, its number of lines, its text
unfoldable pub event_bytes : Whole → List ℕ
event_bytes event = signed event.moment ++ four event.lines ++ string event.raw

-- the byte before the scan place, the bytes from there on, the open line
unfoldable pub line_parts_bytes : LineParts → List ℕ
line_parts_bytes parts = option byte parts.before ++ runs_bytes parts.pending ++ option line_bytes parts.line

-- the open event and the two marks
unfoldable pub merge_parts_bytes : MergeParts → List ℕ
merge_parts_bytes parts = option event_bytes parts.event ++ flag parts.held ++ flag parts.forced

-- all six parts
unfoldable pub spell : Carry → List ℕ
spell carry = line_parts_bytes carry.lines ++ merge_parts_bytes carry.merge ++ option signed carry.latest
