-- The lines of a .conf text. From Splunk's Admin Manual, "Configuration file structure and syntax".
use Rattle.std.specs.Prelude.{◌+◌, ◌==◌, ◌&&◌, ◌||◌, not, if◌then◌else◌, ℕ, Bool, true, false, List, [], ◌∷◌, ◌++◌, take, drop, reverse}
use Rattle.std.specs.Prelude.{Option, Some, None, bytes_eq}
use Rattle.std.specs.Option.{option_map, unwrap_or}

-- what stands before the first such byte, and what stands behind it
abbrev pub cut_at : ℕ → List ℕ → Option (List ℕ × List ℕ)
cut_at byte [] = None
cut_at byte (b ∷ bs) =
    if b == byte then Some ([], bs) else option_map (λ (parts : List ℕ × List ℕ). (b ∷ parts.0, parts.1)) (cut_at byte bs)

-- what stands before a last byte that is this one
abbrev pub before_last : ℕ → List ℕ → Option (List ℕ)
before_last byte [] = None
before_last byte (b ∷ []) = if b == byte then Some [] else None
before_last byte (b ∷ c ∷ bs) = option_map (λ (front : List ℕ). b ∷ front) (before_last byte (c ∷ bs))

-- a space or a tab
abbrev pub is_blank : ℕ → Bool
is_blank b = (b == 32) || (b == 9)

abbrev pub trim_front : List ℕ → List ℕ
trim_front [] = []
trim_front (b ∷ bs) = if is_blank b then trim_front bs else b ∷ bs

abbrev pub trim_back : List ℕ → List ℕ
trim_back bytes = reverse (trim_front (reverse bytes))

-- without the spaces and tabs at both ends
abbrev pub trimmed : List ℕ → List ℕ
trimmed bytes = trim_back (trim_front bytes)

-- without a byte order mark in front
abbrev pub without_mark : List ℕ → List ℕ
without_mark bytes = if bytes_eq (take 3 bytes) (0xEF ∷ 0xBB ∷ 0xBF ∷ []) then drop 3 bytes else bytes

-- the stretches between line feeds
abbrev pub onto_first : ℕ → List (List ℕ) → List (List ℕ)
onto_first b [] = (b ∷ []) ∷ []
onto_first b (line ∷ lines) = (b ∷ line) ∷ lines

abbrev pub stretches : List ℕ → List (List ℕ)
stretches [] = [] ∷ []
stretches (b ∷ bs) = if b == 10 then [] ∷ stretches bs else onto_first b (stretches bs)

-- each but the last ended at a line feed, and a carriage return before that is dropped
abbrev pub ended : List (List ℕ) → List (List ℕ)
ended [] = []
ended (line ∷ []) = line ∷ []
ended (line ∷ next ∷ lines) = unwrap_or (before_last 13 line) line ∷ ended (next ∷ lines)

-- the lines of a text as they stand in it
abbrev pub physical_lines : List ℕ → List (List ℕ)
physical_lines text = ended (stretches text)

-- a line of a setting or stanza, with the number of its first physical line
pub record Line : Type 0 where
  pub number : ℕ
  pub text : List ℕ

abbrev pub begins_with : ℕ → List ℕ → Bool
begins_with byte [] = false
begins_with byte (b ∷ bs) = b == byte

-- behind spaces and tabs there is a `#`
abbrev pub is_comment : List ℕ → Bool
is_comment line = begins_with 35 (trim_front line)

-- a line that was begun goes on in the first of these; where the text ends there, nothing is joined
abbrev pub joined : ℕ → List ℕ → List Line → List Line
joined number text [] = record { number = number; text = text } ∷ []
joined number text (line ∷ lines) = record { number = number; text = text ++ line.text } ∷ lines

-- a line, and the lines behind it: whether the first of those goes on with this one is told to them
abbrev pub line_with : ℕ → List ℕ → (Bool → List Line) → Option (List ℕ) → List Line
line_with number line behind None = record { number = number; text = line } ∷ behind false
line_with number line behind (Some front) = joined number front (behind true)

-- The lines of settings and stanzas among physical lines, the first of which has this number. A
-- line that is begun here and is a comment is dropped. A line whose last byte is a backslash goes
-- on in the next one, without the backslash.
abbrev pub logical_lines : Bool → ℕ → List (List ℕ) → List Line
logical_lines goes_on number [] = []
logical_lines goes_on number (line ∷ lines) =
    if not goes_on && is_comment line then logical_lines false (number + 1) lines
    else line_with number line (λ on. logical_lines on (number + 1) lines) (before_last 92 line)
