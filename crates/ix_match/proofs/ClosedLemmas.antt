-- A closed text has no edges, and its first match lies in it.
use Rattle.std.proofs.Common.{◌≡◌, ℕ, zero, suc, ◌+◌, ◌-◌, ◌≤◌, Bool, true, false, List, [], ◌∷◌, ◌++◌, length, take, Option, Some, None}
use Rattle.std.proofs.Common.{if◌then◌else◌, refl, ◌∙◌, ap, subst, arith, nat_le, ◌&&◌}
use Rattle.std.specs.Prelude.{slice_get, slice_set, replicate, ◌==◌}
use Rattle.std.proofs.lemmas.List.{length-replicate}
use Rattle.ix_pattern.specs.Piece.{Piece, nothing, byte_in, start, finish, word, seq, either, count, group, ahead, in_set, least_length}
use Rattle.ix_pattern.specs.Ways.{Text, Reached, Way, ends_at, edge, onward, required, prefer, optional, further_turns, byte_before}
use Rattle.ix_pattern.specs.Ways.{at_end, here, byte_ways, is_start, finish_ways, is_word_byte, is_word, differ, word_ways, sight, look}
use Rattle.ix_pattern.specs.Ways.{close_group, ways}
use Rattle.ix_pattern.specs.Laws.{AllInOrder}
use Rattle.ix_pattern.specs.Rows.{Shape, tree}
use Rattle.ix_pattern.proofs.Ends.{EachEnd, EachEnd-append, EachEnd-onward, EachEnd-here, EachEnd-at_end, EachEnd-prefer, finish-ends}
use Rattle.ix_pattern.proofs.Ends.{word-ends, look-ends, Within, ways-ends}
use Rattle.ix_pattern.proofs.Spans.{Ordered, ways-keeps}
use Rattle.ix_match.specs.Matches.{closed, ways_from, AllWithin}

-- no edge among them
abbrev pub Known : List Way → Type 0
Known [] = Unit {0}
Known (edge ∷ ways) = ⊥
Known (ends_at r ∷ ways) = Known ways

Known-append : (xs ys : List Way) → Known xs → Known ys → Known (xs ++ ys)
Known-append [] ys p q = q
Known-append (edge ∷ xs) ys p q = absurd p
Known-append (ends_at r ∷ xs) ys p q = Known-append xs ys p q

Known-onward : (next : Reached → List Way) (xs : List Way) → Known xs → ((r : Reached) → Known (next r)) → Known (onward next xs)
Known-onward next [] p f = tt
Known-onward next (edge ∷ xs) p f = absurd p
Known-onward next (ends_at r ∷ xs) p f = Known-append (next r) (onward next xs) (f r) (Known-onward next xs p f)

Known-required : (turn next : Reached → List Way) → ((r : Reached) → Known (turn r)) → ((r : Reached) → Known (next r)) →
    (n : ℕ) (r : Reached) → Known (required turn n next r)
Known-required turn next t f zero r = f r
Known-required turn next t f (suc n) r = Known-onward (required turn n next) (turn r) (t r) (Known-required turn next t f n)

Known-prefer : (lazy : Bool) (stop more : List Way) → Known stop → Known more → Known (prefer lazy stop more)
Known-prefer true stop more p q = Known-append stop more p q
Known-prefer false stop more p q = Known-append more stop q p

Known-optional : (lazy : Bool) (turn : Reached → List Way) → ((r : Reached) → Known (turn r)) → (n : ℕ) (r : Reached) →
    Known (optional lazy turn n r)
Known-optional lazy turn t zero r = tt
Known-optional lazy turn t (suc n) r =
    Known-prefer lazy (ends_at r ∷ []) (onward (optional lazy turn n) (turn r)) tt
    (Known-onward (optional lazy turn n) (turn r) (t r) (Known-optional lazy turn t n))

Known-here : (test : Bool) (r : Reached) → Known (here test r)
Known-here true r = tt
Known-here false r = tt

Known-at_end : (text : Text) (xs : List Way) → text.unfinished ≡ false → Known xs → Known (at_end text xs)
Known-at_end text xs u p = rw u p

Known-byte : (set : List Bool) (text : Text) (r : Reached) (o : Option ℕ) → text.unfinished ≡ false → Known (byte_ways set text r o)
Known-byte set text r None u = Known-at_end text [] u tt
Known-byte set text r (Some b) u = Known-here (in_set set b) (record r { place = r.place + 1 })

Known-finish : (lines : Bool) (text : Text) (r : Reached) (o : Option ℕ) → text.unfinished ≡ false → Known (finish_ways lines text r o)
Known-finish lines text r None u = Known-at_end text (ends_at r ∷ []) u tt
Known-finish true text r (Some b) u = Known-here (b == 10) r
Known-finish false text r (Some b) u = last ((b == 10) && (r.place + 1 == length text.bytes))
  where
    last : (test : Bool) → Known (if test then at_end text (ends_at r ∷ []) else [])
    last true = Known-at_end text (ends_at r ∷ []) u tt
    last false = tt

Known-word : (text : Text) (r : Reached) (o : Option ℕ) → text.unfinished ≡ false → Known (word_ways text r o)
Known-word text r None u =
    Known-at_end text (here (is_word (byte_before text.before text.bytes r.place)) r) u
    (Known-here (is_word (byte_before text.before text.bytes r.place)) r)
Known-word text r (Some b) u = Known-here (differ (is_word (byte_before text.before text.bytes r.place)) (is_word_byte b)) r

Known-look : (wanted : Bool) (r : Reached) (xs : List Way) → Known xs → Known (look wanted r xs)
Known-look true r [] p = tt
Known-look true r (ends_at e ∷ xs) p = tt
Known-look true r (edge ∷ xs) p = absurd p
Known-look false r [] p = tt
Known-look false r (ends_at e ∷ xs) p = tt
Known-look false r (edge ∷ xs) p = absurd p

pub sight-closed : (n : ℕ) (text : Text) → text.unfinished ≡ false → (sight n text).unfinished ≡ false
sight-closed n text u = by (nat_le n (length text.bytes))
  where
    by : (b : Bool) → (if b then record text { bytes = take n text.bytes; unfinished = false } else text).unfinished ≡ false
    by true = refl
    by false = u

pub all-known : (piece : Piece) (text : Text) → text.unfinished ≡ false → (r : Reached) → Known (ways piece text r)
unfolding ways
all-known nothing text u r = tt
all-known (byte_in set) text u r = Known-byte set text r (slice_get text.bytes r.place) u
all-known (start lines) text u r = Known-here (is_start lines (byte_before text.before text.bytes r.place)) r
all-known (finish lines) text u r = Known-finish lines text r (slice_get text.bytes r.place) u
all-known word text u r = Known-word text r (slice_get text.bytes r.place) u
all-known (seq first rest) text u r = Known-onward (ways rest text) (ways first text r) (all-known first text u r) (all-known rest text u)
all-known (either first other) text u r =
    Known-append (ways first text r) (ways other text r) (all-known first text u r) (all-known other text u r)
all-known (count inside least most lazy) text u r =
    Known-required (ways inside text) (optional lazy (ways inside text) (further_turns text least most)) (all-known inside text u)
    (Known-optional lazy (ways inside text) (all-known inside text u) (further_turns text least most)) least r
all-known (group number inside) text u r =
    Known-onward (close_group number r.place) (ways inside text r) (all-known inside text u r) (λ e. tt)
all-known (ahead inside wanted) text u r =
    Known-look wanted r (ways inside (sight (r.place + 255) text) r)
    (all-known inside (sight (r.place + 255) text) (sight-closed (r.place + 255) text u) r)

-- a fact about where a match has come to, which each byte and each group that ends there keep
pub record Stays (P : Reached → Type 0) : Type 0 where
  pub next : (r : Reached) → P r → P (record r { place = r.place + 1 })
  pub closes : (r e : Reached) (number : ℕ) → P r → P e →
      P (record e { groups = slice_set e.groups (number - 1) (Some (r.place, e.place)) })

abbrev KeptBy : (Reached → Type 0) → (Reached → List Way) → Type 0
KeptBy P turn = (r : Reached) → P r → EachEnd P (turn r)

onward-kept : (P : Reached → Type 0) (next : Reached → List Way) (xs : List Way) → EachEnd P xs → KeptBy P next → EachEnd P (onward next xs)
onward-kept P next xs p k = EachEnd-onward P P next xs p k

required-kept : (P : Reached → Type 0) (turn next : Reached → List Way) → KeptBy P turn → KeptBy P next → (m : ℕ) →
    KeptBy P (required turn m next)
required-kept P turn next t f zero r p = f r p
required-kept P turn next t f (suc m) r p = onward-kept P (required turn m next) (turn r) (t r p) (required-kept P turn next t f m)

optional-kept : (P : Reached → Type 0) (lazy : Bool) (turn : Reached → List Way) → KeptBy P turn → (m : ℕ) → KeptBy P (optional lazy turn m)
optional-kept P lazy turn t zero r p = (p, tt)
optional-kept P lazy turn t (suc m) r p =
    EachEnd-prefer P lazy (ends_at r ∷ []) (onward (optional lazy turn m) (turn r)) (p, tt)
    (onward-kept P (optional lazy turn m) (turn r) (t r p) (optional-kept P lazy turn t m))

bytes-kept : (P : Reached → Type 0) → Stays P → (set : List Bool) (text : Text) (r : Reached) (o : Option ℕ) → P r →
    EachEnd P (byte_ways set text r o)
bytes-kept P s set text r None p = EachEnd-at_end P text.unfinished [] tt
bytes-kept P s set text r (Some b) p = EachEnd-here P (in_set set b) (record r { place = r.place + 1 }) (s.next r p)

pub ways-kept : (P : Reached → Type 0) → Stays P → (piece : Piece) (text : Text) → KeptBy P (ways piece text)
unfolding ways
ways-kept P s nothing text r p = (p, tt)
ways-kept P s (byte_in set) text r p = bytes-kept P s set text r (slice_get text.bytes r.place) p
ways-kept P s (start lines) text r p = EachEnd-here P (is_start lines (byte_before text.before text.bytes r.place)) r p
ways-kept P s (finish lines) text r p = finish-ends P lines text r (slice_get text.bytes r.place) p
ways-kept P s word text r p = word-ends P text r (slice_get text.bytes r.place) p
ways-kept P s (seq first rest) text r p = onward-kept P (ways rest text) (ways first text r) (ways-kept P s first text r p)
    (ways-kept P s rest text)
ways-kept P s (either first other) text r p =
    EachEnd-append P (ways first text r) (ways other text r) (ways-kept P s first text r p) (ways-kept P s other text r p)
ways-kept P s (count inside least most lazy) text r p =
    required-kept P (ways inside text) (optional lazy (ways inside text) (further_turns text least most)) (ways-kept P s inside text)
    (optional-kept P lazy (ways inside text) (ways-kept P s inside text) (further_turns text least most)) least r p
ways-kept P s (group number inside) text r p =
    EachEnd-onward P P (close_group number r.place) (ways inside text r) (ways-kept P s inside text r p)
    (λ e q. (s.closes r e number p q, tt))
ways-kept P s (ahead inside wanted) text r p = look-ends P wanted r (ways inside (sight (r.place + 255) text) r) p

-- as many groups as this
abbrev pub SameCount : ℕ → Reached → Type 0
SameCount n r = length r.groups ≡ n

length-set : (groups : List (Option (ℕ × ℕ))) (i : ℕ) (g : Option (ℕ × ℕ)) → length (slice_set groups i g) ≡ length groups
length-set [] i g = refl
length-set (h ∷ groups) zero g = refl
length-set (h ∷ groups) (suc i) g = ap suc (length-set groups i g)

count-stays : (n : ℕ) → Stays (SameCount n)
count-stays n = record {
  next = λ r p. p;
  closes = λ r e number p q. length-set e.groups (number - 1) (Some (r.place, e.place)) ∙ q;
}

-- no group begins before this place
abbrev pub AllFrom : ℕ → List (Option (ℕ × ℕ)) → Type 0
AllFrom low [] = Unit {0}
AllFrom low (None ∷ groups) = AllFrom low groups
AllFrom low (Some span ∷ groups) = (low ≤ span.0) × AllFrom low groups

AllFrom-set : (low : ℕ) (groups : List (Option (ℕ × ℕ))) (i a b : ℕ) → low ≤ a → AllFrom low groups →
    AllFrom low (slice_set groups i (Some (a, b)))
AllFrom-set low [] i a b h all = tt
AllFrom-set low (None ∷ groups) zero a b h all = (h, all)
AllFrom-set low (Some span ∷ groups) zero a b h all = (h, all.1)
AllFrom-set low (None ∷ groups) (suc i) a b h all = AllFrom-set low groups i a b h all
AllFrom-set low (Some span ∷ groups) (suc i) a b h all = (all.0, AllFrom-set low groups i a b h all.1)

pub record From (low : ℕ) (r : Reached) : Type 0 where
  pub place : low ≤ r.place
  pub groups : AllFrom low r.groups

from-stays : (low : ℕ) → Stays (From low)
from-stays low = record {
  next = λ r p. record { place = omega (arith, p.place); groups = p.groups };
  closes = λ r e number p q. record { place = q.place; groups = AllFrom-set low e.groups (number - 1) r.place e.place p.place q.groups };
}

none-from : (count low : ℕ) → AllFrom low (replicate count None)
none-from zero low = tt
none-from (suc n) low = none-from n low

none-set : (count place : ℕ) → AllInOrder place (replicate count None)
none-set zero place = tt
none-set (suc n) place = (tt, none-set n place)

all-within : (low high : ℕ) (groups : List (Option (ℕ × ℕ))) → AllFrom low groups → AllInOrder high groups → AllWithin low high groups
all-within low high [] f o = tt
all-within low high (None ∷ groups) f o = (tt, all-within low high groups f o.1)
all-within low high (Some span ∷ groups) f o = ((f.0, o.0.0, o.0.1), all-within low high groups f.1 o.1)

-- the first of a list has what each of its ends has
head-end : (P : Reached → Type 0) (xs : List Way) (r : Reached) → EachEnd P xs → slice_get xs 0 ≡ Some (ends_at r) → P r
head-end P [] r all e = grind (arith, e)
head-end P (edge ∷ xs) r all e = grind (arith, e)
head-end P (ends_at s ∷ xs) r all e = let same : s ≡ r = cc in subst P same all.0

-- what the first of the ways from a place tells of the groups and of the end
pub record Lies (text : Text) (n place : ℕ) (r : Reached) : Type 0 where
  pub order : place ≤ r.place
  pub within : r.place ≤ length text.bytes
  pub groups : length r.groups ≡ n
  pub spans : AllWithin place r.place r.groups

pub head-lies : (piece : Piece) (text : Text) (n place : ℕ) (r : Reached) → place ≤ length text.bytes →
    slice_get (ways piece text (record { place = place; groups = replicate n None })) 0 ≡ Some (ends_at r) → Lies text n place r
head-lies piece text n place r h e =
    let begun : Reached = record { place = place; groups = replicate n None } in
    let w = head-end (Within text (place + least_length piece)) (ways piece text begun) r (ways-ends piece text begun h) e in
    let o = head-end (Ordered place) (ways piece text begun) r (ways-keeps piece text begun (none-set n place)) e in
    let c = head-end (SameCount n) (ways piece text begun) r
    (ways-kept (SameCount n) (count-stays n) piece text begun (length-replicate n None)) e in
    let f = head-end (From place) (ways piece text begun) r
    (ways-kept (From place) (from-stays place) piece text begun (record { place = omega arith; groups = none-from n place })) e in
    record { order = omega (arith, w.low); within = w.high; groups = c; spans = all-within place r.place r.groups f.groups o.spans }

Known-head : (xs : List Way) → Known xs → slice_get xs 0 ≡ Some edge → ⊥
Known-head [] k e = grind (arith, e)
Known-head (edge ∷ xs) k e = k
Known-head (ends_at r ∷ xs) k e = grind (arith, e)

pub first-known : (p : Shape) (text : List ℕ) (place : ℕ) → slice_get (ways_from p text place) 0 ≡ Some edge → ⊥
first-known p text place e =
    Known-head (ways_from p text place)
    (all-known (tree p.rows) (closed text) refl (record { place = place; groups = replicate p.groups None })) e

pub no-head : (xs : List Way) → slice_get xs 0 ≡ None → xs ≡ []
no-head [] e = refl
no-head (way ∷ xs) e = grind (arith, e)
