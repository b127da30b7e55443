-- The events that lines make.
use Rattle.std.specs.Prelude.{ℕ, ◌-◌, ℤ, pos, Bool, ◌&&◌, if◌then◌else◌, nat_lt, nat_le, List, [], ◌∷◌, ◌++◌, map, length, take, flat_map}
use Rattle.std.specs.List.{join_with_byte}
use Rattle.ix_base.specs.declared.events.Line.{Line}
use Rattle.ix_merge.specs.Starts.{MarkedLine, starts}
use Rattle.ix_merge.specs.declared.events.Whole.{Whole}

-- lines joined by newline bytes, and the moment of the first one
abbrev pub raw_of : List Line → List ℕ
raw_of lines = join_with_byte 10 (map (λ line. line.bytes) lines)

abbrev pub moment_of : List Line → ℤ
moment_of [] = pos 0
moment_of (line ∷ lines) = line.moment

abbrev pub event_of : List Line → Whole
event_of lines = record { raw = raw_of lines; moment = moment_of lines; lines = length lines }

-- an event may have one more line: it then has at most so many lines, and at most 2^22 bytes
abbrev pub has_room : ℕ → List Line → Line → Bool
has_room max lines line = nat_lt (length lines) max && nat_le (length (raw_of (lines ++ line ∷ []))) 4194304

-- The runs of lines, each up to the next line that starts an event: `run` is the one that has
-- begun, `earlier` are all lines before the others.
abbrev pub runs_from : List MarkedLine → List Line → List MarkedLine → List (List Line)
runs_from earlier run [] = run ∷ []
runs_from earlier run (m ∷ later) =
    if starts earlier m.marks then run ∷ runs_from (earlier ++ m ∷ []) (m.line ∷ []) later
    else runs_from (earlier ++ m ∷ []) (run ++ m.line ∷ []) later

abbrev pub runs : List MarkedLine → List (List Line)
runs [] = []
runs (m ∷ later) = runs_from (m ∷ []) (m.line ∷ []) later

-- A run cut so that each piece has room for its lines: `piece` is the one that has begun.
abbrev pub pieces_from : ℕ → List Line → List Line → List (List Line)
pieces_from max piece [] = piece ∷ []
pieces_from max piece (line ∷ lines) =
    if has_room max piece line then pieces_from max (piece ++ line ∷ []) lines
    else piece ∷ pieces_from max (line ∷ []) lines

abbrev pub pieces : ℕ → List Line → List (List Line)
pieces max [] = []
pieces max (line ∷ lines) = pieces_from max (line ∷ []) lines

-- the lines of each event, with merging on
abbrev pub groups : ℕ → List MarkedLine → List (List Line)
groups max lines = flat_map (pieces max) (runs lines)

-- all but the last member
abbrev pub all_but_last : {A : Type 0} → List A → List A
all_but_last xs = take (length xs - 1) xs

-- each line is an event
abbrev pub single_lines : List MarkedLine → List Whole
single_lines lines = map (λ m. event_of (m.line ∷ [])) lines

-- the events of all lines there are
abbrev pub all_events : Bool → ℕ → List MarkedLine → List Whole
all_events on max lines = if on then map event_of (groups max lines) else single_lines lines

-- the events of lines of which more may come: with merging on, the last one may go on
abbrev pub settled : Bool → ℕ → List MarkedLine → List Whole
settled on max lines = if on then all_but_last (map event_of (groups max lines)) else single_lines lines
