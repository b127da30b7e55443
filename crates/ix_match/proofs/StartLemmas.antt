-- The bytes with which no match begins.
use Rattle.std.proofs.Common.{◌≡◌, ℕ, zero, suc, ◌+◌, ◌<◌, Bool, true, false, ◌||◌, List, [], ◌∷◌, length, take, Option, Some, None}
use Rattle.std.proofs.Common.{if◌then◌else◌, nat_le, refl, ◌∙◌, ap, arith, ◌++◌, sym}
use Rattle.std.specs.Prelude.{slice_get, replicate, unwrap_or}
use Rattle.ix_pattern.specs.Piece.{Piece, nothing, byte_in, start, finish, word, seq, either, count, group, ahead}
use Rattle.ix_pattern.specs.Ways.{Text, Reached, onward, required, optional, further_turns, here, byte_ways, close_group, sight, ways}
use Rattle.ix_pattern.specs.Rows.{tree}
use Rattle.ix_match.specs.Attempt.{reach}
use Rattle.ix_match.specs.Starts.{may_begin, OthersBeginNothing}

or-first : (a b : Bool) → (a || b) ≡ false → a ≡ false
or-first true b e = e
or-first false b e = refl

or-other : (a b : Bool) → (a || b) ≡ false → b ≡ false
or-other true b e = absurd (true-ne e)
  where
    true-ne : true ≡ false → ⊥
    true-ne e = grind arith
or-other false b e = e

true-ne-false : true ≡ false → ⊥
true-ne-false e = grind arith

-- a piece before a byte with which it does not begin
pub none-begin : (piece : Piece) (text : Text) (r : Reached) (b : ℕ) → slice_get text.bytes r.place ≡ Some b → may_begin piece b ≡ false →
    ways piece text r ≡ []
unfolding ways may_begin
none-begin nothing text r b e f = absurd (true-ne-false f)
none-begin (byte_in set) text r b e f = ap (byte_ways set text r) e ∙ ap (λ t. here t (record r { place = r.place + 1 })) f
none-begin (start lines) text r b e f = absurd (true-ne-false f)
none-begin (finish lines) text r b e f = absurd (true-ne-false f)
none-begin word text r b e f = absurd (true-ne-false f)
none-begin (seq first rest) text r b e f = ap (onward (ways rest text)) (none-begin first text r b e f)
none-begin (either first other) text r b e f =
    rw (none-begin first text r b e (or-first (may_begin first b) (may_begin other b) f))
    (none-begin other text r b e (or-other (may_begin first b) (may_begin other b) f))
none-begin (count inside zero most lazy) text r b e f = absurd (true-ne-false f)
none-begin (count inside (suc least) most lazy) text r b e f =
    ap (onward (required (ways inside text) least (optional lazy (ways inside text) (further_turns text (suc least) most))))
    (none-begin inside text r b e f)
none-begin (group number inside) text r b e f = ap (onward (close_group number r.place)) (none-begin inside text r b e f)
none-begin (ahead inside wanted) text r b e f = absurd (true-ne-false f)

pub reach-some : 0 < reach
unfolding reach
reach-some = omega arith

seen-first : (n : ℕ) (before : Option ℕ) (b : ℕ) (bytes : List ℕ) (u : Bool) → 0 < n →
    slice_get (sight n (record { before = before; bytes = b ∷ bytes; unfinished = u })).bytes 0 ≡ Some b
seen-first zero before b bytes u some = absurd (omega arith)
seen-first (suc n) before b bytes u some = by (nat_le (suc n) (length (b ∷ bytes)))
  where
    first : Text → Option ℕ
    first text = slice_get text.bytes 0

    by : (near : Bool) → first (if near then record {
      before = before;
      bytes = take (suc n) (b ∷ bytes);
      unfinished = false;
    } else record { before = before; bytes = b ∷ bytes; unfinished = u }) ≡ Some b
    by true = refl
    by false = refl

pub others-begin-nothing : OthersBeginNothing
others-begin-nothing p before b bytes u f =
    none-begin (tree p.rows) (sight reach (record { before = before; bytes = b ∷ bytes; unfinished = u }))
    (record { place = 0; groups = replicate p.groups None }) b (seen-first reach before b bytes u reach-some) f

-- what is known of one piece more
known-next : (below : List Bool) (b : Bool) (f : ℕ → Bool) → ((k : ℕ) → k < length below → unwrap_or (slice_get below k) false ≡ f k) →
    b ≡ f (length below) →
    (k : ℕ) → k < suc (length below) → unwrap_or (slice_get (below ++ b ∷ []) k) false ≡ f k
known-next [] b f h e zero lt = e
known-next [] b f h e (suc k) lt = absurd (omega (arith, lt))
known-next (x ∷ xs) b f h e zero lt = h zero (omega arith)
known-next (x ∷ xs) b f h e (suc k) lt = known-next xs b (λ j. f (suc j)) (λ j l. h (suc j) (omega (arith, l))) e k (omega (arith, lt))

pub known-more : (below : List Bool) (b : Bool) (f : ℕ → Bool) (n : ℕ) → length below ≡ n →
    ((k : ℕ) → k < n → unwrap_or (slice_get below k) false ≡ f k) → b ≡ f n →
    (k : ℕ) → k < n + 1 → unwrap_or (slice_get (below ++ b ∷ []) k) false ≡ f k
known-more below b f n all h e k lt = known-next below b f (λ j l. h j (omega (arith, l, all))) (e
    ∙ ap f (sym all)) k (omega (arith, lt, all))
