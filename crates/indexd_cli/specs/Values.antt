-- The values that the words have: names, files, numbers and times.
use Rattle.std.specs.Prelude.{◌==◌, ◌&&◌, ◌||◌, ℕ, ℤ, Bool, not, List, [], ◌∷◌, length, drop, Option, Some, None, codes, if◌then◌else◌}
use Rattle.std.specs.Prelude.{nat_le, slice_index}
use Rattle.std.specs.List.{list_all, list_any}
use Rattle.std.specs.Char.{is_ascii_digit}
use Rattle.std.specs.Str.{bytes_eq}
use Rattle.std.specs.Str.Parse.{digits_value, signed_digits_value, starts_with_minus}

-- how many bytes a host, a source or a source type has at the most
abbrev pub longest_name : ℕ
longest_name = 1024

-- one byte or more, and not too many
abbrev pub is_name : List ℕ → Bool
is_name text = nat_le 1 (length text) && nat_le (length text) longest_name

abbrev pub name_of : List ℕ → Option (List ℕ)
name_of text = if is_name text then Some text else None

-- the files that have settings
abbrev pub file_names : List (List ℕ)
file_names = codes "props" ∷ codes "transforms" ∷ codes "indexes" ∷ codes "inputs" ∷ codes "zones" ∷ []

abbrev pub is_file : List ℕ → Bool
is_file text = list_any (λ name. bytes_eq text name) file_names

abbrev pub file_of : List ℕ → Option (List ℕ)
file_of text = if is_file text then Some text else None

-- one decimal digit or more, where a number of two digits or more does not begin with a 0 (48)
abbrev pub is_number : List ℕ → Bool
is_number text =
    nat_le 1 (length text) && (list_all is_ascii_digit text && (length text == 1 || not (slice_index text 0 == 48)))

-- the number that a text writes, where it lies from `least` to `most`
unfoldable pub number_in : ℕ → ℕ → List ℕ → Option ℕ
number_in least most text =
    if is_number text && (nat_le least (digits_value 10 text) && nat_le (digits_value 10 text) most)
    then Some (digits_value 10 text) else None

-- what stands behind a minus, or all of the text
abbrev pub behind_minus : List ℕ → List ℕ
behind_minus text = if starts_with_minus text then drop 1 text else text

-- a minus, or none, and 1 to 11 decimal digits
abbrev pub is_time : List ℕ → Bool
is_time text =
    nat_le 1 (length (behind_minus text))
    && (nat_le (length (behind_minus text)) 11 && list_all is_ascii_digit (behind_minus text))

-- the whole seconds since 1970 that a text writes
unfoldable pub seconds_of : List ℕ → Option ℤ
seconds_of text = if is_time text then Some (signed_digits_value 10 text) else None
