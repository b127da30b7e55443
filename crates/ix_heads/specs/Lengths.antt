-- What the lines of a head say of the length of the body.
use Rattle.std.specs.Prelude.{ℕ, ◌+◌, ◌*◌, ◌-◌, ◌&&◌, nat_le, List, [], ◌∷◌, length, Option, Some, None, codes, if◌then◌else◌}
use Rattle.std.specs.Char.{is_ascii_digit}
use Rattle.ix_heads.specs.Lines.{Line, absent, one, many, line_of}
use Rattle.ix_heads.specs.declared.lengths.Declared.{Declared}
use Rattle.ix_heads.specs.declared.lengths.Declared.TheVariants.{Wrong, Missing, Bytes}

-- decimal digits behind a number
abbrev pub more_digits : ℕ → List ℕ → Option ℕ
more_digits n [] = Some n
more_digits n (b ∷ bs) = if is_ascii_digit b then more_digits (n * 10 + (b - 48)) bs else None

-- 1 to 10 decimal digits
abbrev pub ten_digits : List ℕ → Option ℕ
ten_digits text = if nat_le 1 (length text) && nat_le (length text) 10 then more_digits 0 text else None

abbrev pub length_in : Option ℕ → Declared
length_in None = Wrong
length_in (Some n) = Bytes n

-- one line of 1 to 10 digits, or none
abbrev pub length_by : Line → Declared
length_by absent = Missing
length_by (one value) = length_in (ten_digits value)
length_by many = Wrong

abbrev pub declared_length : List (List ℕ × List ℕ) → Declared
declared_length lines = length_by (line_of (codes "content-length") lines)
