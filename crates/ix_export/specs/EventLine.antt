-- The text of an event: one line of seven fields.
use Rattle.std.specs.Prelude.{◌+◌, ◌/◌, ◌%◌, ◌==◌, ◌&&◌, nat_le, not, Bool, if◌then◌else◌, ℕ, ℤ, pos, List, [], ◌∷◌, ◌++◌, map, codes}
use Rattle.std.specs.Prelude.{decimal, unsigned_abs, int_lt}
use Rattle.std.specs.List.{flat_map}
use Rattle.hex.specs.Hex.{encode_lower}
use Rattle.ix_base.specs.declared.events.Event.{Event}

-- printing ASCII, but for the backslash
abbrev pub is_plain : ℕ → Bool
is_plain b = nat_le 0x20 b && nat_le b 0x7E && not (b == 92)

-- a byte that is not plain: a letter behind a backslash, or two hexadecimal digits
abbrev pub escape : ℕ → List ℕ
escape b =
    if b == 92 then codes "\\\\"
    else if b == 10 then codes "\\n"
    else if b == 13 then codes "\\r"
    else if b == 9 then codes "\\t"
    else codes "\\x" ++ encode_lower (b ∷ [])

-- a byte as it stands in a field
abbrev pub escaped : ℕ → List ℕ
escaped b = if is_plain b then b ∷ [] else escape b

abbrev pub field : List ℕ → List ℕ
field bytes = flat_map escaped bytes

abbrev pub six_digits : ℕ → List ℕ
six_digits n = map (λ power. 48 + n / power % 10) (100000 ∷ 10000 ∷ 1000 ∷ 100 ∷ 10 ∷ 1 ∷ [])

-- so many microseconds, as whole seconds, a point and six digits
abbrev pub seconds_text : ℕ → List ℕ
seconds_text micros = decimal (micros / 1000000) ++ 46 ∷ six_digits (micros % 1000000)

abbrev pub sign_text : Bool → List ℕ
sign_text negative = if negative then 45 ∷ [] else []

-- microseconds since 1970: a minus sign before 1970, and the magnitude
abbrev pub time_text : ℤ → List ℕ
time_text micros = sign_text (int_lt micros (pos 0)) ++ seconds_text (unsigned_abs micros)

-- index, time, host, source, sourcetype, meta and raw text with tabs between, and a newline
abbrev pub line : Event → List ℕ
line event =
    field event.index ++ 9 ∷ time_text event.time ++ 9 ∷ field event.host ++ 9 ∷ field event.source
    ++ 9 ∷ field event.sourcetype ++ 9 ∷ field event.meta ++ 9 ∷ field event.raw ++ 10 ∷ []

-- the part of a line between the time and the raw text
abbrev pub middle : List ℕ → List ℕ → List ℕ → List ℕ → List ℕ
middle host source sourcetype meta =
    9 ∷ field host ++ 9 ∷ field source ++ 9 ∷ field sourcetype ++ 9 ∷ field meta ++ 9 ∷ []

-- one line for each event
abbrev pub lines : List Event → List ℕ
lines events = flat_map line events
