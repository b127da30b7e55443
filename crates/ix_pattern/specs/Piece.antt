-- A pattern as the tree of its pieces.
use Rattle.std.specs.Prelude.{ℕ, ◌+◌, ◌*◌, ◌<◌, Bool, List, Option, Some, None, min, slice_get, unwrap_or, false}

pub data Piece : Type 0 where
  nothing : Piece
  -- a byte of the set; a set is a test for each of the 256 bytes
  byte_in : List Bool → Piece
  -- `^` and `$`; the flag is the letter `m`
  start : Bool → Piece
  finish : Bool → Piece
  word : Piece
  seq : Piece → Piece → Piece
  -- the first is preferred
  either : Piece → Piece → Piece
  -- the least number of turns, the most if there is one, and whether fewer turns are preferred
  count : Piece → ℕ → Option ℕ → Bool → Piece
  group : ℕ → Piece → Piece
  -- `(?=` if the flag is true, else `(?!`
  ahead : Piece → Bool → Piece

abbrev pub in_set : List Bool → ℕ → Bool
in_set set b = unwrap_or (slice_get set b) false

-- the least number of bytes that a match takes
unfoldable pub least_length : Piece → ℕ
least_length nothing = 0
least_length (byte_in set) = 1
least_length (start lines) = 0
least_length (finish lines) = 0
least_length word = 0
least_length (seq first rest) = least_length first + least_length rest
least_length (either first other) = min (least_length first) (least_length other)
least_length (count inside least most lazy) = least * least_length inside
least_length (group number inside) = least_length inside
least_length (ahead inside wanted) = 0

-- where the number of turns has no limit, each turn takes a byte
abbrev pub TakesIfUnlimited : Option ℕ → Piece → Type 0
TakesIfUnlimited None inside = 0 < least_length inside
TakesIfUnlimited (Some n) inside = Unit {0}

-- it has neither a group nor a lookahead
abbrev pub IsPlain : Piece → Type 0
IsPlain nothing = Unit {0}
IsPlain (byte_in set) = Unit {0}
IsPlain (start lines) = Unit {0}
IsPlain (finish lines) = Unit {0}
IsPlain word = Unit {0}
IsPlain (seq first rest) = IsPlain first × IsPlain rest
IsPlain (either first other) = IsPlain first × IsPlain other
IsPlain (count inside least most lazy) = IsPlain inside
IsPlain (group number inside) = ⊥
IsPlain (ahead inside wanted) = ⊥

-- No piece that may take no byte repeats without a limit, and what a lookahead asks is plain.
abbrev pub IsSound : Piece → Type 0
IsSound nothing = Unit {0}
IsSound (byte_in set) = Unit {0}
IsSound (start lines) = Unit {0}
IsSound (finish lines) = Unit {0}
IsSound word = Unit {0}
IsSound (seq first rest) = IsSound first × IsSound rest
IsSound (either first other) = IsSound first × IsSound other
IsSound (count inside least most lazy) = IsSound inside × TakesIfUnlimited most inside
IsSound (group number inside) = IsSound inside
IsSound (ahead inside wanted) = IsSound inside × IsPlain inside
