-- The lines of a stream.
use Rattle.std.specs.Prelude.{ℕ, ◌≤◌, ◌-◌, ◌==◌, ◌||◌, ℤ, Bool, true, false, not, ◌&&◌, if◌then◌else◌, nat_le, nat_lt, List, [], ◌∷◌, ◌++◌}
use Rattle.std.specs.Prelude.{length, take, slice_index, unwrap_or, find}
use Rattle.std.specs.List.{flat_map}
use Rattle.ix_base.specs.Stream.{Dated, bytes_of}
use Rattle.ix_lines.specs.Walk.{BreakFinder, walk_of}
use Rattle.ix_base.specs.declared.events.Line.{Line}

-- the length at which a line is cut, by the setting: 0 and all above 2^20 count as 2^20
abbrev pub effective : ℕ → ℕ
effective truncate = if (truncate == 0) || nat_lt 1048576 truncate then 1048576 else truncate

-- a byte that goes on a character of UTF-8
abbrev pub goes_on : ℕ → Bool
goes_on b = nat_le 0x80 b && nat_le b 0xBF

-- how far a cut at T steps back, so as not to cut a character: the least of these, or not at all
abbrev pub step_back : ℕ → List ℕ → ℕ
step_back t line = unwrap_or (find (λ k. nat_le k t && not (goes_on (slice_index line (t - k)))) (0 ∷ 1 ∷ 2 ∷ 3 ∷ [])) 0

abbrev pub cut : ℕ → List ℕ → List ℕ
cut t line = if nat_le (length line) t then line else take (t - step_back t line) line

-- a line has at most 2^20 bytes
abbrev pub IsShort : Line → Type 0
IsShort line = length line.bytes ≤ 1048576

abbrev pub unless_empty : List ℕ → ℤ → List Line
unless_empty [] moment = []
unless_empty (b ∷ bytes) moment = record { bytes = b ∷ bytes; moment = moment } ∷ []

-- a stretch as a line, or none; its moment is that of its first byte
abbrev pub line_of : ℕ → List Dated → List Line
line_of t [] = []
line_of t (d ∷ stretch) = unless_empty (cut t (bytes_of (d ∷ stretch))) d.1

-- the lines of an open stream, and those of a closed one, where the last rest is a line too
abbrev pub settled : BreakFinder → ℕ → List Dated → List Line
settled look t stream = flat_map (line_of t) (walk_of look true stream).done

abbrev pub all_lines : BreakFinder → ℕ → List Dated → List Line
all_lines look t stream =
    let w = walk_of look false stream in flat_map (line_of t) w.done ++ line_of t (w.rest ++ w.pending)
