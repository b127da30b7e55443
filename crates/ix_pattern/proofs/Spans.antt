-- The spans of the groups.
use Rattle.std.proofs.Common.{ℕ, zero, suc, ◌+◌, ◌-◌, ◌≤◌, Bool, List, [], ◌∷◌, Option, Some, None, arith}
use Rattle.std.specs.Prelude.{slice_get, slice_set}
use Rattle.ix_pattern.specs.Piece.{Piece, nothing, byte_in, start, finish, word, seq, either, count, group, ahead, in_set}
use Rattle.ix_pattern.specs.Ways.{Text, Reached, Way, ends_at, onward, required, optional, further_turns, byte_before, byte_ways, is_start}
use Rattle.ix_pattern.specs.Ways.{sight, close_group, ways}
use Rattle.ix_pattern.specs.Laws.{AllInOrder}
use Rattle.ix_pattern.proofs.Ends.{EachEnd, EachEnd-append, EachEnd-onward, EachEnd-weaker, EachEnd-here, EachEnd-at_end, EachEnd-prefer}
use Rattle.ix_pattern.proofs.Ends.{finish-ends, word-ends, look-ends}

AllInOrder-weaker : (p q : ℕ) (groups : List (Option (ℕ × ℕ))) → p ≤ q → AllInOrder p groups → AllInOrder q groups
AllInOrder-weaker p q [] h all = tt
AllInOrder-weaker p q (None ∷ groups) h all = (tt, AllInOrder-weaker p q groups h all.1)
AllInOrder-weaker p q (Some span ∷ groups) h all = ((all.0.0, omega (arith, all.0.1)), AllInOrder-weaker p q groups h all.1)

AllInOrder-set : (p : ℕ) (groups : List (Option (ℕ × ℕ))) (i a b : ℕ) → a ≤ b → b ≤ p → AllInOrder p groups →
    AllInOrder p (slice_set groups i (Some (a, b)))
AllInOrder-set p [] i a b x y all = tt
AllInOrder-set p (g ∷ groups) zero a b x y all = ((x, y), all.1)
AllInOrder-set p (g ∷ groups) (suc i) a b x y all = (all.0, AllInOrder-set p groups i a b x y all.1)

-- from a place on, with spans in order
pub record Ordered (from : ℕ) (r : Reached) : Type 0 where
  pub low : from ≤ r.place
  pub spans : AllInOrder r.place r.groups

abbrev pub Keeps : (Reached → List Way) → Type 0
Keeps turn = (r : Reached) → AllInOrder r.place r.groups → EachEnd (Ordered r.place) (turn r)

from-here : (from : ℕ) (e : Reached) (xs : List Way) → from ≤ e.place → EachEnd (Ordered e.place) xs → EachEnd (Ordered from) xs
from-here from e xs h p = EachEnd-weaker (Ordered e.place) (Ordered from) xs (λ f o. record { low = omega (arith, o.low); spans = o.spans })
    p

onward-keeps : (first next : Reached → List Way) (r : Reached) → EachEnd (Ordered r.place) (first r) → Keeps next →
    EachEnd (Ordered r.place) (onward next (first r))
onward-keeps first next r p k =
    EachEnd-onward (Ordered r.place) (Ordered r.place) next (first r) p (λ e o. from-here r.place e (next e) o.low (k e o.spans))

optional-keeps : (lazy : Bool) (turn : Reached → List Way) → Keeps turn → (n : ℕ) → Keeps (optional lazy turn n)
optional-keeps lazy turn k zero r all = (record { low = omega arith; spans = all }, tt)
optional-keeps lazy turn k (suc n) r all =
    EachEnd-prefer (Ordered r.place) lazy (ends_at r ∷ []) (onward (optional lazy turn n) (turn r))
    (record { low = omega arith; spans = all }, tt)
    (onward-keeps turn (optional lazy turn n) r (k r all) (optional-keeps lazy turn k n))

required-keeps : (turn next : Reached → List Way) → Keeps turn → Keeps next → (n : ℕ) → Keeps (required turn n next)
required-keeps turn next k j zero r all = j r all
required-keeps turn next k j (suc n) r all = onward-keeps turn (required turn n next) r (k r all) (required-keeps turn next k j n)

bytes-keeps : (set : List Bool) (text : Text) (r : Reached) (o : Option ℕ) → AllInOrder r.place r.groups →
    EachEnd (Ordered r.place) (byte_ways set text r o)
bytes-keeps set text r None all = EachEnd-at_end (Ordered r.place) text.unfinished [] tt
bytes-keeps set text r (Some b) all =
    EachEnd-here (Ordered r.place) (in_set set b) (record r { place = r.place + 1 })
    (record { low = omega arith; spans = AllInOrder-weaker r.place (r.place + 1) r.groups (omega arith) all })

pub ways-keeps : (piece : Piece) (text : Text) → Keeps (ways piece text)
unfolding ways
ways-keeps nothing text r all = (record { low = omega arith; spans = all }, tt)
ways-keeps (byte_in set) text r all = bytes-keeps set text r (slice_get text.bytes r.place) all
ways-keeps (start lines) text r all =
    EachEnd-here (Ordered r.place) (is_start lines (byte_before text.before text.bytes r.place)) r
    (record { low = omega arith; spans = all })
ways-keeps (finish lines) text r all =
    finish-ends (Ordered r.place) lines text r (slice_get text.bytes r.place) (record { low = omega arith; spans = all })
ways-keeps word text r all = word-ends (Ordered r.place) text r (slice_get text.bytes r.place) (record { low = omega arith; spans = all })
ways-keeps (seq first rest) text r all = onward-keeps (ways first text) (ways rest text) r (ways-keeps first text r all)
    (ways-keeps rest text)
ways-keeps (either first other) text r all =
    EachEnd-append (Ordered r.place) (ways first text r) (ways other text r) (ways-keeps first text r all) (ways-keeps other text r all)
ways-keeps (count inside least most lazy) text r all =
    required-keeps (ways inside text) (optional lazy (ways inside text) (further_turns text least most)) (ways-keeps inside text)
    (optional-keeps lazy (ways inside text) (ways-keeps inside text) (further_turns text least most)) least r all
ways-keeps (group number inside) text r all =
    EachEnd-onward (Ordered r.place) (Ordered r.place) (close_group number r.place) (ways inside text r) (ways-keeps inside text r all)
    (λ e o. (record { low = o.low; spans = AllInOrder-set e.place e.groups (number - 1) r.place e.place o.low (omega arith) o.spans }, tt))
ways-keeps (ahead inside wanted) text r all =
    look-ends (Ordered r.place) wanted r (ways inside (sight (r.place + 255) text) r) (record { low = omega arith; spans = all })
