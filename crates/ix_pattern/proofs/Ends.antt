-- Where the ends of a list of ways lie.
use Rattle.std.proofs.Common.{◌≡◌, ℕ, zero, suc, ◌+◌, ◌*◌, ◌<◌, ◌≤◌, min, Bool, true, false, List, [], ◌∷◌, ◌++◌, length, Option, Some}
use Rattle.std.proofs.Common.{None, if◌then◌else◌, refl, arith, ◌&&◌}
use Rattle.std.specs.Prelude.{slice_get, ◌==◌}
use Rattle.std.proofs.lemmas.Option.{slice_get_within}
use Rattle.ix_pattern.specs.Piece.{Piece, nothing, byte_in, start, finish, word, seq, either, count, group, ahead, in_set, least_length}
use Rattle.ix_pattern.specs.Ways.{Text, Reached, Way, ends_at, edge, onward, required, prefer, optional, further_turns, byte_before}
use Rattle.ix_pattern.specs.Ways.{at_end, here, byte_ways, is_start, finish_ways, is_word_byte, is_word, differ, word_ways, sight, look}
use Rattle.ix_pattern.specs.Ways.{close_group, ways}

abbrev pub EachEnd : (Reached → Type 0) → List Way → Type 0
EachEnd P [] = Unit {0}
EachEnd P (edge ∷ ways) = EachEnd P ways
EachEnd P (ends_at r ∷ ways) = P r × EachEnd P ways

pub EachEnd-append : (P : Reached → Type 0) (xs ys : List Way) → EachEnd P xs → EachEnd P ys → EachEnd P (xs ++ ys)
EachEnd-append P [] ys p q = q
EachEnd-append P (edge ∷ xs) ys p q = EachEnd-append P xs ys p q
EachEnd-append P (ends_at r ∷ xs) ys p q = (p.0, EachEnd-append P xs ys p.1 q)

pub EachEnd-onward : (P Q : Reached → Type 0) (next : Reached → List Way) (xs : List Way) →
    EachEnd P xs → ((r : Reached) → P r → EachEnd Q (next r)) → EachEnd Q (onward next xs)
EachEnd-onward P Q next [] p f = tt
EachEnd-onward P Q next (edge ∷ xs) p f = EachEnd-onward P Q next xs p f
EachEnd-onward P Q next (ends_at r ∷ xs) p f =
    EachEnd-append Q (next r) (onward next xs) (f r p.0) (EachEnd-onward P Q next xs p.1 f)

pub EachEnd-weaker : (P Q : Reached → Type 0) (xs : List Way) → ((r : Reached) → P r → Q r) → EachEnd P xs → EachEnd Q xs
EachEnd-weaker P Q [] f p = tt
EachEnd-weaker P Q (edge ∷ xs) f p = EachEnd-weaker P Q xs f p
EachEnd-weaker P Q (ends_at r ∷ xs) f p = (f r p.0, EachEnd-weaker P Q xs f p.1)

-- at least `least` bytes further on, and within the text
pub record Within (text : Text) (from : ℕ) (r : Reached) : Type 0 where
  pub low : from ≤ r.place
  pub high : r.place ≤ length text.bytes

pub EachEnd-here : (P : Reached → Type 0) (test : Bool) (r : Reached) → P r → EachEnd P (here test r)
EachEnd-here P true r p = (p, tt)
EachEnd-here P false r p = tt

pub EachEnd-at_end : (P : Reached → Type 0) (u : Bool) (xs : List Way) → EachEnd P xs → EachEnd P (if u then edge ∷ [] else xs)
EachEnd-at_end P true xs p = tt
EachEnd-at_end P false xs p = p

byte_in-ends : (set : List Bool) (text : Text) (r : Reached) (o : Option ℕ) → slice_get text.bytes r.place ≡ o →
    EachEnd (Within text (r.place + 1)) (byte_ways set text r o)
byte_in-ends set text r None e = EachEnd-at_end (Within text (r.place + 1)) text.unfinished [] tt
byte_in-ends set text r (Some b) e =
    let lt : r.place < length text.bytes = slice_get_within text.bytes r.place b e in
    EachEnd-here (Within text (r.place + 1)) (in_set set b) (record r { place = r.place + 1 })
    (record { low = omega arith; high = omega arith })

pub finish-ends : (P : Reached → Type 0) (lines : Bool) (text : Text) (r : Reached) (o : Option ℕ) → P r →
    EachEnd P (finish_ways lines text r o)
finish-ends P lines text r None p = EachEnd-at_end P text.unfinished (ends_at r ∷ []) (p, tt)
finish-ends P true text r (Some b) p = EachEnd-here P (b == 10) r p
finish-ends P false text r (Some b) p =
    last ((b == 10) && (r.place + 1 == length text.bytes))
  where
    last : (test : Bool) → EachEnd P (if test then at_end text (ends_at r ∷ []) else [])
    last true = EachEnd-at_end P text.unfinished (ends_at r ∷ []) (p, tt)
    last false = tt

pub word-ends : (P : Reached → Type 0) (text : Text) (r : Reached) (o : Option ℕ) → P r → EachEnd P (word_ways text r o)
word-ends P text r None p =
    EachEnd-at_end P text.unfinished (here (is_word (byte_before text.before text.bytes r.place)) r)
    (EachEnd-here P (is_word (byte_before text.before text.bytes r.place)) r p)
word-ends P text r (Some b) p = EachEnd-here P (differ (is_word (byte_before text.before text.bytes r.place)) (is_word_byte b)) r p

pub look-ends : (P : Reached → Type 0) (wanted : Bool) (r : Reached) (xs : List Way) → P r → EachEnd P (look wanted r xs)
look-ends P true r [] p = tt
look-ends P true r (ends_at e ∷ xs) p = (p, tt)
look-ends P true r (edge ∷ xs) p = tt
look-ends P false r [] p = (p, tt)
look-ends P false r (ends_at e ∷ xs) p = tt
look-ends P false r (edge ∷ xs) p = tt

-- a turn takes at least so many bytes
abbrev pub Takes : Text → ℕ → (Reached → List Way) → Type 0
Takes text n turn = (r : Reached) → r.place ≤ length text.bytes → EachEnd (Within text (r.place + n)) (turn r)

pub EachEnd-prefer : (P : Reached → Type 0) (lazy : Bool) (stop more : List Way) → EachEnd P stop → EachEnd P more →
    EachEnd P (prefer lazy stop more)
EachEnd-prefer P true stop more p q = EachEnd-append P stop more p q
EachEnd-prefer P false stop more p q = EachEnd-append P more stop q p

optional-ends : (text : Text) (lazy : Bool) (turn : Reached → List Way) (l : ℕ) → Takes text l turn → (n : ℕ) →
    Takes text 0 (optional lazy turn n)
optional-ends text lazy turn l takes zero r h = (record { low = omega arith; high = h }, tt)
optional-ends text lazy turn l takes (suc n) r h =
    EachEnd-prefer (Within text (r.place + 0)) lazy (ends_at r ∷ []) (onward (optional lazy turn n) (turn r))
    (record { low = omega arith; high = h }, tt)
    (EachEnd-onward (Within text (r.place + l)) (Within text (r.place + 0)) (optional lazy turn n) (turn r) (takes r h)
    (λ e w. EachEnd-weaker (Within text (e.place + 0)) (Within text (r.place + 0)) (optional lazy turn n e)
    (λ f v. record { low = omega (arith, w.low, v.low); high = v.high }) (optional-ends text lazy turn l takes n e w.high)))

required-ends : (text : Text) (turn next : Reached → List Way) (l : ℕ) → Takes text l turn → Takes text 0 next → (n : ℕ) →
    Takes text (n * l) (required turn n next)
required-ends text turn next l takes onto zero r h =
    EachEnd-weaker (Within text (r.place + 0)) (Within text (r.place + 0 * l)) (next r)
    (λ e w. record { low = omega (arith, w.low); high = w.high }) (onto r h)
required-ends text turn next l takes onto (suc n) r h =
    EachEnd-onward (Within text (r.place + l)) (Within text (r.place + suc n * l)) (required turn n next) (turn r) (takes r h)
    (λ e w. EachEnd-weaker (Within text (e.place + n * l)) (Within text (r.place + suc n * l)) (required turn n next e)
    (λ f v. record { low = omega (arith, w.low, v.low); high = v.high }) (required-ends text turn next l takes onto n e w.high))

pub ways-ends : (piece : Piece) (text : Text) → Takes text (least_length piece) (ways piece text)
unfolding ways least_length
ways-ends nothing text r h = (record { low = omega arith; high = h }, tt)
ways-ends (byte_in set) text r h = byte_in-ends set text r (slice_get text.bytes r.place) refl
ways-ends (start lines) text r h =
    EachEnd-here (Within text (r.place + 0)) (is_start lines (byte_before text.before text.bytes r.place)) r
    (record { low = omega arith; high = h })
ways-ends (finish lines) text r h =
    finish-ends (Within text (r.place + 0)) lines text r (slice_get text.bytes r.place) (record { low = omega arith; high = h })
ways-ends word text r h =
    word-ends (Within text (r.place + 0)) text r (slice_get text.bytes r.place) (record { low = omega arith; high = h })
ways-ends (seq first rest) text r h =
    EachEnd-onward (Within text (r.place + least_length first)) (Within text (r.place + (least_length first + least_length rest)))
    (ways rest text) (ways first text r) (ways-ends first text r h)
    (λ e w. EachEnd-weaker (Within text (e.place + least_length rest)) (Within text (r.place + (least_length first + least_length rest)))
    (ways rest text e) (λ f v. record { low = omega (arith, w.low, v.low); high = v.high }) (ways-ends rest text e w.high))
ways-ends (either first other) text r h =
    EachEnd-append (Within text (r.place + min (least_length first) (least_length other))) (ways first text r) (ways other text r)
    (EachEnd-weaker (Within text (r.place + least_length first)) (Within text (r.place + min (least_length first) (least_length other)))
    (ways first text r) (λ e w. record { low = omega (arith, w.low); high = w.high }) (ways-ends first text r h))
    (EachEnd-weaker (Within text (r.place + least_length other)) (Within text (r.place + min (least_length first) (least_length other)))
    (ways other text r) (λ e w. record { low = omega (arith, w.low); high = w.high }) (ways-ends other text r h))
ways-ends (count inside least most lazy) text r h =
    required-ends text (ways inside text) (optional lazy (ways inside text) (further_turns text least most)) (least_length inside)
    (ways-ends inside text)
    (optional-ends text lazy (ways inside text) (least_length inside) (ways-ends inside text) (further_turns text least most))
    least r h
ways-ends (group number inside) text r h =
    EachEnd-onward (Within text (r.place + least_length inside)) (Within text (r.place + least_length inside))
    (close_group number r.place) (ways inside text r) (ways-ends inside text r h)
    (λ e w. (record { low = w.low; high = w.high }, tt))
ways-ends (ahead inside wanted) text r h =
    look-ends (Within text (r.place + 0)) wanted r (ways inside (sight (r.place + 255) text) r) (record { low = omega arith; high = h })
