-- The header lines of one name. Names are compared without regard to ASCII case.
use Rattle.std.specs.Prelude.{◌&&◌, ℕ, Bool, not, List, [], ◌∷◌, if◌then◌else◌}
use Rattle.std.specs.List.{list_any}
use Rattle.std.specs.Str.{str_eq_ignore_ascii_case}
use Rattle.ix_heads.specs.declared.lines.Found.{Found}
use Rattle.ix_heads.specs.declared.lines.Found.TheVariants.{Absent, One, Many}

-- what a head says under a name
pub data Line : Type 0 where
  absent : Line
  one : List ℕ → Line
  many : Line

-- one more line of the name
abbrev pub one_more : List ℕ → Line → Line
one_more value absent = one value
one_more value (one v) = many
one_more value many = many

-- what the lines say under the name, after what was found before
abbrev pub line_after : Line → List ℕ → List (List ℕ × List ℕ) → Line
line_after found name [] = found
line_after found name (f ∷ fs) =
    line_after (if str_eq_ignore_ascii_case f.0 name then one_more f.1 found else found) name fs

-- the line of the name among these
abbrev pub line_of : List ℕ → List (List ℕ × List ℕ) → Line
line_of name lines = line_after absent name lines

-- a line of the name is there
abbrev pub has_line : List ℕ → List (List ℕ × List ℕ) → Bool
has_line name lines = list_any (λ f. str_eq_ignore_ascii_case f.0 name) lines

-- a line of the name is there whose value is another one, in any case of its letters
abbrev pub has_other : List ℕ → List ℕ → List (List ℕ × List ℕ) → Bool
has_other name value lines =
    list_any (λ f. str_eq_ignore_ascii_case f.0 name && not (str_eq_ignore_ascii_case f.1 value)) lines

-- the line that a value of the code stands for
abbrev pub seen : Found → Line
seen Absent = absent
seen (One value) = one value.now
seen Many = many
