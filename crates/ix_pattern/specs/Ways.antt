-- The ways of a piece at a place of a text, in the order of preference.
use Rattle.std.specs.Prelude.{ℕ, zero, suc, ◌+◌, ◌-◌, Bool, true, false, not, ◌&&◌, ◌||◌, if◌then◌else◌, nat_le, ◌==◌, List, [], ◌∷◌, ◌++◌}
use Rattle.std.specs.Prelude.{length, take, Option, Some, None, slice_get, slice_set}
use Rattle.ix_pattern.specs.Piece.{Piece, nothing, byte_in, start, finish, word, seq, either, count, group, ahead, in_set}

pub record Text : Type 0 where
  -- the byte before the first place; none at the start of the whole text
  pub before : Option ℕ
  pub bytes : List ℕ
  -- more bytes may follow
  pub unfinished : Bool

-- where a match has come to
pub record Reached : Type 0 where
  pub place : ℕ
  pub groups : List (Option (ℕ × ℕ))

pub data Way : Type 0 where
  ends_at : Reached → Way
  -- the answer depends on bytes that have not come
  edge : Way

-- each end is replaced by the ways that lead on from there, an edge stays
abbrev pub onward : (Reached → List Way) → List Way → List Way
onward next [] = []
onward next (edge ∷ ways) = edge ∷ onward next ways
onward next (ends_at r ∷ ways) = next r ++ onward next ways

-- so many turns, and then what comes next
abbrev pub required : (Reached → List Way) → ℕ → (Reached → List Way) → Reached → List Way
required turn zero next r = next r
required turn (suc n) next r = onward (required turn n next) (turn r)

-- the order of stopping here and of going on
abbrev pub prefer : Bool → List Way → List Way → List Way
prefer true stop more = stop ++ more
prefer false stop more = more ++ stop

-- at most so many turns; a lazy count would rather stop
abbrev pub optional : Bool → (Reached → List Way) → ℕ → Reached → List Way
optional lazy turn zero r = ends_at r ∷ []
optional lazy turn (suc n) r = prefer lazy (ends_at r ∷ []) (onward (optional lazy turn n) (turn r))

-- How many turns may follow the least number. Each turn of a count with no limit takes a byte, so
-- there are no more than the text has bytes, and one that comes to the text's end.
abbrev pub further_turns : Text → ℕ → Option ℕ → ℕ
further_turns text least (Some most) = most - least
further_turns text least None = suc (length text.bytes)

abbrev pub byte_before : Option ℕ → List ℕ → ℕ → Option ℕ
byte_before before bytes zero = before
byte_before before bytes (suc n) = slice_get bytes n

-- at the text's end, where a closed text has these ways
abbrev pub at_end : Text → List Way → List Way
at_end text ways = if text.unfinished then edge ∷ [] else ways

-- an end here, if the test holds
abbrev pub here : Bool → Reached → List Way
here test r = if test then ends_at r ∷ [] else []

abbrev pub byte_ways : List Bool → Text → Reached → Option ℕ → List Way
byte_ways set text r None = at_end text []
byte_ways set text r (Some b) = here (in_set set b) (record r { place = r.place + 1 })

abbrev pub is_start : Bool → Option ℕ → Bool
is_start lines None = true
is_start lines (Some b) = lines && (b == 10)

abbrev pub finish_ways : Bool → Text → Reached → Option ℕ → List Way
finish_ways lines text r None = at_end text (ends_at r ∷ [])
finish_ways true text r (Some b) = here (b == 10) r
finish_ways false text r (Some b) =
    if (b == 10) && (r.place + 1 == length text.bytes) then at_end text (ends_at r ∷ []) else []

-- the letters, the digits and `_`
abbrev pub is_word_byte : ℕ → Bool
is_word_byte b =
    (nat_le 48 b && nat_le b 57) || (nat_le 65 b && nat_le b 90) || (nat_le 97 b && nat_le b 122) || (b == 95)

abbrev pub is_word : Option ℕ → Bool
is_word None = false
is_word (Some b) = is_word_byte b

abbrev pub differ : Bool → Bool → Bool
differ a b = if a then not b else b

abbrev pub word_ways : Text → Reached → Option ℕ → List Way
word_ways text r None = at_end text (here (is_word (byte_before text.before text.bytes r.place)) r)
word_ways text r (Some b) = here (differ (is_word (byte_before text.before text.bytes r.place)) (is_word_byte b)) r

-- the text to one who sees its first n bytes: where it has that many, it is closed there
abbrev pub sight : ℕ → Text → Text
sight n text =
    if nat_le n (length text.bytes) then record text { bytes = take n text.bytes; unfinished = false } else text

-- by the head of the list inside
abbrev pub look : Bool → Reached → List Way → List Way
look true r [] = []
look true r (ends_at e ∷ ways) = ends_at r ∷ []
look false r [] = ends_at r ∷ []
look false r (ends_at e ∷ ways) = []
look wanted r (edge ∷ ways) = edge ∷ []

-- the group is set to what it spans
abbrev pub close_group : ℕ → ℕ → Reached → List Way
close_group number from r =
    ends_at (record r { groups = slice_set r.groups (number - 1) (Some (from, r.place)) }) ∷ []

unfoldable pub ways : Piece → Text → Reached → List Way
ways nothing text r = ends_at r ∷ []
ways (byte_in set) text r = byte_ways set text r (slice_get text.bytes r.place)
ways (start lines) text r = here (is_start lines (byte_before text.before text.bytes r.place)) r
ways (finish lines) text r = finish_ways lines text r (slice_get text.bytes r.place)
ways word text r = word_ways text r (slice_get text.bytes r.place)
ways (seq first rest) text r = onward (ways rest text) (ways first text r)
ways (either first other) text r = ways first text r ++ ways other text r
ways (count inside least most lazy) text r =
    required (ways inside text) least (optional lazy (ways inside text) (further_turns text least most)) r
ways (group number inside) text r = onward (close_group number r.place) (ways inside text r)
ways (ahead inside wanted) text r = look wanted r (ways inside (sight (r.place + 255) text) r)
