-- The range that a query names, over the pairs that `form_urlencoded` reads of it.
use Rattle.std.specs.Prelude.{ℕ, ℤ, ◌&&◌, Bool, List, [], ◌∷◌, length, drop, map, Option, Some, None, is_some, codes, if◌then◌else◌}
use Rattle.std.specs.Prelude.{nat_le, option_map, option_and_then}
use Rattle.std.specs.List.{list_all}
use Rattle.std.specs.Char.{is_ascii_digit}
use Rattle.std.specs.Str.{bytes_eq}
use Rattle.std.specs.Str.Lossy.{utf8_lossy}
use Rattle.std.specs.Str.Parse.{signed_digits_value, starts_with_minus}
use Rattle.form_urlencoded.specs.Form.{raw_pairs, decode}
use Rattle.ix_base.specs.declared.events.Range.{Range}

-- the digits of a time: what stands behind a minus
abbrev pub digits_in : List ℕ → List ℕ
digits_in text = if starts_with_minus text then drop 1 text else text

-- an optional minus and 1 to 11 digits
abbrev pub is_time : List ℕ → Bool
is_time text =
    nat_le 1 (length (digits_in text)) && (nat_le (length (digits_in text)) 11 && list_all is_ascii_digit (digits_in text))

-- the seconds that the text writes
unfoldable pub seconds_of : List ℕ → Option ℤ
seconds_of text = if is_time text then Some (signed_digits_value 10 text) else None

-- the range with one more pair: each name once, and no other name
unfoldable pub with_pair : Range → List ℕ × List ℕ → Option Range
with_pair r (name, value) =
    if bytes_eq name (codes "earliest") then (if is_some r.earliest then None
    else option_map (λ t. record r { earliest = Some t }) (seconds_of value))
    else (if bytes_eq name (codes "latest") then (if is_some r.latest then None
    else option_map (λ t. record r { latest = Some t }) (seconds_of value))
    else None)

-- the range after these pairs
abbrev pub read_on : Range → List (List ℕ × List ℕ) → Option Range
read_on r [] = Some r
read_on r (p ∷ ps) = option_and_then (λ s. read_on s ps) (with_pair r p)

-- a pair as text: what is not UTF-8 is replaced
abbrev pub as_text : List ℕ × List ℕ → List ℕ × List ℕ
as_text (name, value) = (utf8_lossy (decode name), utf8_lossy (decode value))

abbrev pub no_range : Range
no_range = record { earliest = None; latest = None }

-- the range that the query names, or none where it is refused
abbrev pub range_of : List ℕ → Option Range
range_of query = read_on no_range (map as_text (raw_pairs query))
