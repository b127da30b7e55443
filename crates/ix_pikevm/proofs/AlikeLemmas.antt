-- The ways of a piece from one place do not depend on the groups, apart from the groups.
use Rattle.std.proofs.Common.{◌≡◌, ℕ, zero, suc, ◌+◌, if◌then◌else◌, ◌&&◌, Bool, true, false, List, [], ◌∷◌, ◌++◌, length, Option, Some}
use Rattle.std.proofs.Common.{None, refl, ap, subst, arith}
use Rattle.std.specs.Prelude.{slice_get, ◌==◌}
use Rattle.ix_pattern.specs.Piece.{Piece, nothing, byte_in, start, finish, word, seq, either, count, group, ahead, in_set}
use Rattle.ix_pattern.specs.Ways.{Text, Reached, Way, ends_at, edge, onward, required, prefer, optional, further_turns, byte_before}
use Rattle.ix_pattern.specs.Ways.{at_end, here, byte_ways, is_start, finish_ways, is_word_byte, is_word, differ, word_ways, sight, look}
use Rattle.ix_pattern.specs.Ways.{close_group, ways}
use Rattle.ix_pikevm.specs.Alike.{Like}

pub Like-nil : (xs ys : List Way) → Like xs ys → xs ≡ [] → ys ≡ []
Like-nil [] [] l e = refl
Like-nil [] (y ∷ ys) l e = absurd l
Like-nil (x ∷ xs) [] l e = refl
Like-nil (x ∷ xs) (y ∷ ys) l e = absurd (let k : length (x ∷ xs) ≡ 0 = ap length e in omega (arith, k))

pub Like-append : (xs us ys vs : List Way) → Like xs us → Like ys vs → Like (xs ++ ys) (us ++ vs)
Like-append [] [] ys vs l m = m
Like-append [] (u ∷ us) ys vs l m = absurd l
Like-append (x ∷ xs) [] ys vs l m = absurd l
Like-append (edge ∷ xs) (edge ∷ us) ys vs l m = Like-append xs us ys vs l m
Like-append (edge ∷ xs) (ends_at s ∷ us) ys vs l m = absurd l
Like-append (ends_at r ∷ xs) (edge ∷ us) ys vs l m = absurd l
Like-append (ends_at r ∷ xs) (ends_at s ∷ us) ys vs l m = (l.0, Like-append xs us ys vs l.1 m)

abbrev pub LikeFrom : (Reached → List Way) → (Reached → List Way) → Type 0
LikeFrom f g = (r s : Reached) → r.place ≡ s.place → Like (f r) (g s)

pub Like-onward : (f g : Reached → List Way) (xs ys : List Way) → LikeFrom f g → Like xs ys → Like (onward f xs) (onward g ys)
Like-onward f g [] [] h l = tt
Like-onward f g [] (y ∷ ys) h l = absurd l
Like-onward f g (x ∷ xs) [] h l = absurd l
Like-onward f g (edge ∷ xs) (edge ∷ ys) h l = Like-onward f g xs ys h l
Like-onward f g (edge ∷ xs) (ends_at s ∷ ys) h l = absurd l
Like-onward f g (ends_at r ∷ xs) (edge ∷ ys) h l = absurd l
Like-onward f g (ends_at r ∷ xs) (ends_at s ∷ ys) h l =
    Like-append (f r) (g s) (onward f xs) (onward g ys) (h r s l.0) (Like-onward f g xs ys h l.1)

here-like : (b : Bool) (r s : Reached) → r.place ≡ s.place → Like (here b r) (here b s)
here-like true r s e = (e, tt)
here-like false r s e = tt

at_end-like : (u : Bool) (xs ys : List Way) → Like xs ys → Like (if u then edge ∷ [] else xs) (if u then edge ∷ [] else ys)
at_end-like true xs ys l = tt
at_end-like false xs ys l = l

pub byte-like : (set : List Bool) (text : Text) (o : Option ℕ) (r s : Reached) → r.place ≡ s.place →
    Like (byte_ways set text r o) (byte_ways set text s o)
byte-like set text None r s e = at_end-like text.unfinished [] [] tt
byte-like set text (Some b) r s e = here-like (in_set set b) (record r { place = r.place + 1 }) (record s { place = s.place + 1 })
    (ap (λ n. n + 1) e)

pub finish-like : (lines : Bool) (text : Text) (o : Option ℕ) (r s : Reached) → r.place ≡ s.place →
    Like (finish_ways lines text r o) (finish_ways lines text s o)
finish-like lines text None r s e = at_end-like text.unfinished (ends_at r ∷ []) (ends_at s ∷ []) (e, tt)
finish-like true text (Some b) r s e = here-like (b == 10) r s e
finish-like false text (Some b) r s e =
    subst (λ n. Like (if (b == 10) && (r.place + 1 == length text.bytes) then at_end text (ends_at r ∷ []) else [])
    (if (b == 10) && (n + 1 == length text.bytes) then at_end text (ends_at s ∷ []) else [])) e
    (last ((b == 10) && (r.place + 1 == length text.bytes)))
  where
    last : (t : Bool) → Like (if t then at_end text (ends_at r ∷ []) else []) (if t then at_end text (ends_at s ∷ []) else [])
    last true = at_end-like text.unfinished (ends_at r ∷ []) (ends_at s ∷ []) (e, tt)
    last false = tt

pub word-like : (text : Text) (o : Option ℕ) (r s : Reached) → r.place ≡ s.place → Like (word_ways text r o) (word_ways text s o)
word-like text None r s e =
    subst (λ n. Like (at_end text (here (is_word (byte_before text.before text.bytes r.place)) r))
    (at_end text (here (is_word (byte_before text.before text.bytes n)) s))) e
    (at_end-like text.unfinished (here (is_word (byte_before text.before text.bytes r.place)) r)
    (here (is_word (byte_before text.before text.bytes r.place)) s)
    (here-like (is_word (byte_before text.before text.bytes r.place)) r s e))
word-like text (Some b) r s e =
    subst (λ n. Like (here (differ (is_word (byte_before text.before text.bytes r.place)) (is_word_byte b)) r)
    (here (differ (is_word (byte_before text.before text.bytes n)) (is_word_byte b)) s)) e
    (here-like (differ (is_word (byte_before text.before text.bytes r.place)) (is_word_byte b)) r s e)

look-like : (wanted : Bool) (r s : Reached) (xs ys : List Way) → r.place ≡ s.place → Like xs ys → Like (look wanted r xs) (look wanted s ys)
look-like wanted r s [] (y ∷ ys) e l = absurd l
look-like wanted r s (x ∷ xs) [] e l = absurd l
look-like wanted r s (edge ∷ xs) (ends_at b ∷ ys) e l = absurd l
look-like wanted r s (ends_at a ∷ xs) (edge ∷ ys) e l = absurd l
look-like true r s [] [] e l = tt
look-like true r s (ends_at a ∷ xs) (ends_at b ∷ ys) e l = (e, tt)
look-like true r s (edge ∷ xs) (edge ∷ ys) e l = tt
look-like false r s [] [] e l = (e, tt)
look-like false r s (ends_at a ∷ xs) (ends_at b ∷ ys) e l = tt
look-like false r s (edge ∷ xs) (edge ∷ ys) e l = tt

prefer-like : (lazy : Bool) (xs us ys vs : List Way) → Like xs us → Like ys vs → Like (prefer lazy xs ys) (prefer lazy us vs)
prefer-like true xs us ys vs l m = Like-append xs us ys vs l m
prefer-like false xs us ys vs l m = Like-append ys vs xs us m l

pub optional-like : (lazy : Bool) (turn : Reached → List Way) → LikeFrom turn turn → (n : ℕ) →
    LikeFrom (optional lazy turn n) (optional lazy turn n)
optional-like lazy turn t zero r s e = (e, tt)
optional-like lazy turn t (suc n) r s e =
    prefer-like lazy (ends_at r ∷ []) (ends_at s ∷ []) (onward (optional lazy turn n) (turn r)) (onward (optional lazy turn n) (turn s)) (
      e,
      tt,
    )
    (Like-onward (optional lazy turn n) (optional lazy turn n) (turn r) (turn s) (optional-like lazy turn t n) (t r s e))

required-like : (turn next : Reached → List Way) → LikeFrom turn turn → LikeFrom next next → (n : ℕ) →
    LikeFrom (required turn n next) (required turn n next)
required-like turn next t k zero r s e = k r s e
required-like turn next t k (suc n) r s e =
    Like-onward (required turn n next) (required turn n next) (turn r) (turn s) (required-like turn next t k n) (t r s e)

pub ways-like : (piece : Piece) (text : Text) → LikeFrom (ways piece text) (ways piece text)
unfolding ways
ways-like nothing text r s e = (e, tt)
ways-like (byte_in set) text r s e =
    subst (λ n. Like (byte_ways set text r (slice_get text.bytes r.place)) (byte_ways set text s (slice_get text.bytes n))) e
    (byte-like set text (slice_get text.bytes r.place) r s e)
ways-like (start lines) text r s e =
    subst (λ n. Like (here (is_start lines (byte_before text.before text.bytes r.place)) r)
    (here (is_start lines (byte_before text.before text.bytes n)) s)) e
    (here-like (is_start lines (byte_before text.before text.bytes r.place)) r s e)
ways-like (finish lines) text r s e =
    subst (λ n. Like (finish_ways lines text r (slice_get text.bytes r.place)) (finish_ways lines text s (slice_get text.bytes n))) e
    (finish-like lines text (slice_get text.bytes r.place) r s e)
ways-like word text r s e =
    subst (λ n. Like (word_ways text r (slice_get text.bytes r.place)) (word_ways text s (slice_get text.bytes n))) e
    (word-like text (slice_get text.bytes r.place) r s e)
ways-like (seq first rest) text r s e = Like-onward (ways rest text) (ways rest text) (ways first text r) (ways first text s)
    (ways-like rest text) (ways-like first text r s e)
ways-like (either first other) text r s e =
    Like-append (ways first text r) (ways first text s) (ways other text r) (ways other text s) (ways-like first text r s e)
    (ways-like other text r s e)
ways-like (count inside least most lazy) text r s e =
    required-like (ways inside text) (optional lazy (ways inside text) (further_turns text least most)) (ways-like inside text)
    (optional-like lazy (ways inside text) (ways-like inside text) (further_turns text least most)) least r s e
ways-like (group number inside) text r s e =
    Like-onward (close_group number r.place) (close_group number s.place) (ways inside text r) (ways inside text s) (λ a b f. (f, tt))
    (ways-like inside text r s e)
ways-like (ahead inside wanted) text r s e =
    subst (λ n. Like (look wanted r (ways inside (sight (r.place + 255) text) r)) (look wanted s (ways inside (sight (n + 255) text) s))) e
    (look-like wanted r s (ways inside (sight (r.place + 255) text) r) (ways inside (sight (r.place + 255) text) s) e
    (ways-like inside (sight (r.place + 255) text) r s e))
