-- The tokens of a pattern's text. A text that has no tokens is not in the grammar.
use Rattle.std.specs.Prelude.{ℕ, suc, zero, ◌+◌, ◌-◌, ◌*◌, Bool, true, false, ◌&&◌, ◌||◌, not, ◌==◌, if◌then◌else◌, nat_le, List, [], ◌∷◌}
use Rattle.std.specs.Prelude.{length, Option, Some, None, option_and_then}
use Rattle.ix_pattern.specs.Sets.{none, with_range, union, folded, complement, digits, words, spaces, is_upper, is_lower}
use Rattle.ix_pattern.specs.declared.tokens.Flags.{Flags}
use Rattle.ix_pattern.specs.declared.tokens.Leaf.{Leaf}
use Rattle.ix_pattern.specs.declared.tokens.Leaf.TheVariants.{Bytes, Start, Finish, Word}
use Rattle.ix_pattern.specs.declared.tokens.Opening.TheVariants.{Capture, Plain, Ahead}
use Rattle.ix_pattern.specs.declared.tokens.Times.{Times}
use Rattle.ix_pattern.specs.declared.tokens.Times.TheVariants.{Maybe, Limited, Unlimited}
use Rattle.ix_pattern.specs.declared.tokens.Token.{Token}
use Rattle.ix_pattern.specs.declared.tokens.Token.TheVariants as token
use Rattle.ix_pattern.specs.declared.classes.Escape.{Escape}
use Rattle.ix_pattern.specs.declared.classes.Escape.TheVariants as escape

infixl 10 ◌>>=◌
abbrev pub ◌>>=◌ : {A B : Type 0} → Option A → (A → Option B) → Option B
o >>= f = option_and_then f o

-- ---- numbers and counts

abbrev pub is_digit : ℕ → Bool
is_digit b = nat_le 48 b && nat_le b 57

-- a number of 1 to 4 digits, of which so many, with this value, have been read, and what is behind
-- it
abbrev pub number_from : ℕ → ℕ → List ℕ → Option (ℕ × List ℕ)
number_from seen value [] = if seen == 0 then None else Some (value, [])
number_from seen value (b ∷ bytes) =
    if is_digit b then (if seen == 4 then None else number_from (seen + 1) (10 * value + (b - 48)) bytes)
    else if seen == 0 then None else Some (value, b ∷ bytes)

unfoldable pub number : List ℕ → Option (ℕ × List ℕ)
number bytes = number_from 0 0 bytes

-- `}` behind both numbers
unfoldable pub closing : ℕ → ℕ → List ℕ → Option (Times × List ℕ)
closing least most [] = None
closing least most (b ∷ bytes) = if b == 125 then Some (Limited least most, bytes) else None

-- behind `{`, a number and `,`
unfoldable pub upper_limit : ℕ → List ℕ → Option (Times × List ℕ)
upper_limit least [] = None
upper_limit least (b ∷ bytes) = if b == 125 then Some (Unlimited least, bytes) else (do
  most ← number (b ∷ bytes)
  closing least most.0 most.1)

-- behind `{` and a number
unfoldable pub limits_from : ℕ → List ℕ → Option (Times × List ℕ)
limits_from least [] = None
limits_from least (b ∷ bytes) =
    if b == 125 then Some (Limited least least, bytes) else if b == 44 then upper_limit least bytes else None

-- behind `{`: the limits, if they have one of the three forms
unfoldable pub limits : List ℕ → Option (Times × List ℕ)
limits bytes = do
  least ← number bytes
  limits_from least.0 least.1

abbrev pub in_order : Times → Bool
in_order Maybe = true
in_order (Limited least most) = nat_le least most
in_order (Unlimited least) = true

-- a count, and the `?` behind it where there is one
unfoldable pub count : Times → List ℕ → Token × List ℕ
count times [] = (token.Count (record { times = times; lazy = false }), [])
count times (b ∷ bytes) =
    if b == 63 then (token.Count (record { times = times; lazy = true }), bytes)
    else (token.Count (record { times = times; lazy = false }), b ∷ bytes)

-- ---- escapes and classes

abbrev pub is_word_letter : ℕ → Bool
is_word_letter b = is_digit b || is_upper b || is_lower b

abbrev pub hex_digit : ℕ → Option ℕ
hex_digit b =
    if is_digit b then Some (b - 48)
    else if nat_le 65 b && nat_le b 70 then Some (b - 55)
    else if nat_le 97 b && nat_le b 102 then Some (b - 87)
    else None

-- behind `\x`: two digits
unfoldable pub hex_byte : List ℕ → Option (Escape × List ℕ)
hex_byte [] = None
hex_byte (a ∷ []) = None
hex_byte (a ∷ b ∷ bytes) = do
  high ← hex_digit a
  low ← hex_digit b
  Some (escape.Byte (16 * high + low), bytes)

abbrev pub escape_of : ℕ → Option Escape
escape_of b =
    if b == 100 then Some (escape.Set digits)
    else if b == 68 then Some (escape.Set (complement digits))
    else if b == 119 then Some (escape.Set words)
    else if b == 87 then Some (escape.Set (complement words))
    else if b == 115 then Some (escape.Set spaces)
    else if b == 83 then Some (escape.Set (complement spaces))
    else if b == 98 then Some escape.Word
    else if b == 114 then Some (escape.Byte 13)
    else if b == 110 then Some (escape.Byte 10)
    else if b == 116 then Some (escape.Byte 9)
    else if b == 102 then Some (escape.Byte 12)
    else if is_word_letter b then None
    else Some (escape.Byte b)

-- behind `\`
unfoldable pub escape_at : List ℕ → Option (Escape × List ℕ)
escape_at [] = None
escape_at (b ∷ bytes) = if b == 120 then hex_byte bytes else (do
  e ← escape_of b
  Some (e, bytes))

-- two bytes begin a class name, as in `[:digit:]`
abbrev pub begins_name : ℕ → List ℕ → Bool
begins_name b [] = false
begins_name b (c ∷ bytes) = (b == 91) && (c == 58)

-- a single byte of a class, or a set escape
unfoldable pub single : List ℕ → Option (Escape × List ℕ)
single [] = None
single (b ∷ bytes) = if b == 92 then escape_at bytes else if begins_name b bytes then None else Some (escape.Byte b, bytes)

-- what is behind a `-` that makes a range: one that is not the last byte of its class
unfoldable pub range_end : List ℕ → Option (List ℕ)
range_end [] = None
range_end (a ∷ []) = None
range_end (a ∷ b ∷ bytes) = if (a == 45) && not (b == 93) then Some (b ∷ bytes) else None

-- the set with a range, up to a single byte that is not below the first
unfoldable pub range : List Bool → ℕ → Escape × List ℕ → Option (List Bool × List ℕ)
range set low (escape.Byte high, bytes) = if nat_le low high then Some (with_range low high set, bytes) else None
range set low (escape.Set other, bytes) = None
range set low (escape.Word, bytes) = None

unfoldable pub behind_byte : List Bool → ℕ → List ℕ → Option (List ℕ) → Option (List Bool × List ℕ)
behind_byte set low bytes None = Some (with_range low low set, bytes)
behind_byte set low bytes (Some behind) = do
  high ← single behind
  range set low high

unfoldable pub member_from : List Bool → Escape × List ℕ → Option (List Bool × List ℕ)
member_from set (escape.Byte low, bytes) = behind_byte set low bytes (range_end bytes)
member_from set (escape.Set other, bytes) = Some (union set other, bytes)
member_from set (escape.Word, bytes) = None

-- the set with one member of a class
unfoldable pub member : List Bool → List ℕ → Option (List Bool × List ℕ)
member set bytes = do
  first ← single bytes
  member_from set first

-- The class ends with `]` (true), or has one more member.
unfoldable pub turn : List Bool → List ℕ → Option (Bool × List Bool × List ℕ)
turn set [] = None
turn set (b ∷ bytes) = if b == 93 then Some (true, set, bytes) else (do
  m ← member set (b ∷ bytes)
  Some (false, m.0, m.1))

-- The members up to `]`. There are no more than bytes.
unfoldable pub members : ℕ → List Bool → List ℕ → Option (List Bool × List ℕ)
members zero set bytes = None
members (suc n) set bytes = do
  t ← turn set bytes
  if t.0 then Some (t.1, t.2) else members n t.1 t.2

-- behind `[` or `[^`: one member, which may be `]`, and the others
unfoldable pub class_set : List ℕ → Option (List Bool × List ℕ)
class_set bytes = do
  m ← member none bytes
  members (length bytes) m.0 m.1

unfoldable pub leaf_token : Leaf → List ℕ → Token × List ℕ
leaf_token leaf bytes = (token.Leaf leaf, bytes)

-- behind `[`
unfoldable pub class : Bool → List ℕ → Option (Token × List ℕ)
class fold [] = None
class fold (b ∷ bytes) =
    if b == 94 then (do
      c ← class_set bytes
      Some (token.Leaf (Bytes (complement (folded fold c.0))), c.1))
    else (do
      c ← class_set (b ∷ bytes)
      Some (token.Leaf (Bytes (folded fold c.0)), c.1))

-- ---- tokens

abbrev pub literal : Bool → ℕ → Token
literal fold b = token.Leaf (Bytes (folded fold (with_range b b none)))

abbrev pub escape_token : Bool → Escape → Token
escape_token fold (escape.Byte b) = literal fold b
escape_token fold (escape.Set set) = token.Leaf (Bytes set)
escape_token fold escape.Word = token.Leaf Word

-- `.`: all bytes, or all but the newline
abbrev pub dot : Bool → Token
dot all = token.Leaf (Bytes (complement (if all then none else with_range 10 10 none)))

-- behind `(?`
unfoldable pub special_opening : List ℕ → Option (Token × List ℕ)
special_opening [] = None
special_opening (b ∷ bytes) =
    if b == 58 then Some (token.Open Plain, bytes)
    else if b == 61 then Some (token.Open (Ahead true), bytes)
    else if b == 33 then Some (token.Open (Ahead false), bytes)
    else None

-- behind `(`
unfoldable pub opening : List ℕ → Option (Token × List ℕ)
opening [] = Some (token.Open Capture, [])
opening (b ∷ bytes) = if b == 63 then special_opening bytes else Some (token.Open Capture, b ∷ bytes)

-- behind `{`: a count, or a literal byte
unfoldable pub brace_from : Bool → List ℕ → Option (Times × List ℕ) → Option (Token × List ℕ)
brace_from fold bytes None = Some (literal fold 123, bytes)
brace_from fold bytes (Some found) = if in_order found.0 then Some (count found.0 found.1) else None

unfoldable pub brace : Bool → List ℕ → Option (Token × List ℕ)
brace fold bytes = brace_from fold bytes (limits bytes)

unfoldable pub escaped : Bool → List ℕ → Option (Token × List ℕ)
escaped fold bytes = do
  e ← escape_at bytes
  Some (escape_token fold e.0, e.1)

-- the token that begins with this byte, and what is behind it
unfoldable pub token_at : Flags → ℕ → List ℕ → Option (Token × List ℕ)
token_at flags b bytes =
    if b == 92 then escaped flags.fold bytes
    else if b == 94 then Some (token.Leaf (Start flags.lines), bytes)
    else if b == 36 then Some (token.Leaf (Finish flags.lines), bytes)
    else if b == 46 then Some (dot flags.all, bytes)
    else if b == 91 then class flags.fold bytes
    else if b == 124 then Some (token.Bar, bytes)
    else if b == 40 then opening bytes
    else if b == 41 then Some (token.Close, bytes)
    else if b == 42 then Some (count (Unlimited 0) bytes)
    else if b == 43 then Some (count (Unlimited 1) bytes)
    else if b == 63 then Some (count Maybe bytes)
    else if b == 123 then brace flags.fold bytes
    else Some (literal flags.fold b, bytes)

unfoldable pub token_front : Flags → List ℕ → Option (Token × List ℕ)
token_front flags [] = None
token_front flags (b ∷ bytes) = token_at flags b bytes

-- All tokens. There are no more than bytes.
unfoldable pub tokens : ℕ → Flags → List ℕ → Option (List Token)
tokens zero flags [] = Some []
tokens (suc n) flags [] = Some []
tokens zero flags (b ∷ bytes) = None
tokens (suc n) flags (b ∷ bytes) = do
  t ← token_at flags b bytes
  others ← tokens n flags t.1
  Some (t.0 ∷ others)

-- ---- modifiers

abbrev pub with_letter : Flags → ℕ → Option Flags
with_letter flags b =
    if b == 105 then Some (record flags { fold = true })
    else if b == 109 then Some (record flags { lines = true })
    else if b == 115 then Some (record flags { all = true })
    else None

-- letters up to `)`
abbrev pub letters : Flags → List ℕ → Option (Flags × List ℕ)
letters flags [] = None
letters flags (b ∷ bytes) = if b == 41 then Some (flags, bytes) else (do
  more ← with_letter flags b
  letters more bytes)

-- `(?`, one or more letters and `)`
unfoldable pub modifier : Flags → List ℕ → Option (Flags × List ℕ)
modifier flags [] = None
modifier flags (a ∷ []) = None
modifier flags (a ∷ b ∷ []) = None
modifier flags (a ∷ b ∷ c ∷ bytes) = if (a == 40) && (b == 63) then (do
  more ← with_letter flags c
  letters more bytes) else None

-- where there was no modifier, the bytes; else what comes next
abbrev pub behind_modifier : (Flags → List ℕ → Flags × List ℕ) → Flags → List ℕ → Option (Flags × List ℕ) → Flags × List ℕ
behind_modifier next flags bytes None = (flags, bytes)
behind_modifier next flags bytes (Some more) = next more.0 more.1

-- All modifiers at the front, and what is behind them. There are no more than bytes.
unfoldable pub modifiers : ℕ → Flags → List ℕ → Flags × List ℕ
modifiers zero flags bytes = (flags, bytes)
modifiers (suc n) flags bytes = behind_modifier (modifiers n) flags bytes (modifier flags bytes)

abbrev pub no_flags : Flags
no_flags = record { fold = false; lines = false; all = false }

-- the tokens behind the modifiers, under what they set
unfoldable pub tokens_of : List ℕ → Option (List Token)
tokens_of text =
    let front : Flags × List ℕ = modifiers (length text) no_flags text in
    tokens (length front.1) front.0 front.1
