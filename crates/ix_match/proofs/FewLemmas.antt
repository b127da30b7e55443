-- A search for one of a few bytes, and the bytes that are passed over.
use Rattle.std.proofs.Common.{◌≡◌, ℕ, zero, suc, ◌+◌, ◌<◌, Bool, true, false, List, [], ◌∷◌, length, get_or, Option, Some, None, refl, sym}
use Rattle.std.proofs.Common.{◌∙◌, arith}
use Rattle.std.specs.Prelude.{unwrap_or, take_while, not}
use Rattle.std.specs.List.{prefix_len}
use Rattle.std.proofs.lemmas.List.{length-take-le}
use Rattle.std.proofs.lemmas.List.Sums.{prefix_len-le-length}
use Rattle.ix_pattern.specs.Piece.{in_set}
use Rattle.memchr.specs.Find.{IsFirstByte}
use Rattle.ix_match.specs.declared.few.Few.{Few}
use Rattle.ix_match.specs.declared.few.Few.TheVariants.{One, Two, Three, Other}
use Rattle.ix_match.specs.Few.{is_one_of, AreItsBytes, Lists}

abbrev pub over : List Bool → List ℕ → ℕ
over set bytes = prefix_len (λ b. not (in_set set b)) bytes

not-passed : (test : Bool) → (test ≡ true → ⊥) → not test ≡ true
not-passed true f = absurd (f refl)
not-passed false f = refl

step : (set : List Bool) (x : ℕ) (xs : List ℕ) → (in_set set x ≡ true → ⊥) → over set (x ∷ xs) ≡ 1 + over set xs
step set x xs f = rw (not-passed (in_set set x) f) refl

all-over : (set : List Bool) (bytes : List ℕ) → ((k : ℕ) → k < length bytes → in_set set (get_or bytes k 0) ≡ true → ⊥) →
    over set bytes ≡ length bytes
all-over set [] f = refl
all-over set (x ∷ xs) f =
    omega (arith, step set x xs (f 0 (omega arith)), all-over set xs (λ k low. f (suc k) (omega (arith, low))))

over-to : (set : List Bool) (bytes : List ℕ) (n : ℕ) → n < length bytes → ((k : ℕ) → k < n → in_set set (get_or bytes k 0) ≡ true → ⊥) →
    in_set set (get_or bytes n 0) ≡ true → over set bytes ≡ n
over-to set [] n low f e = absurd (omega (arith, low))
over-to set (x ∷ xs) zero low f e = rw e refl
over-to set (x ∷ xs) (suc n) low f e =
    omega (arith, step set x xs (f 0 (omega arith)), over-to set xs n (omega (arith, low)) (λ k less. f (suc k) (omega (arith, less))) e)

found-over : (set : List Bool) (test : ℕ → Bool) (bytes : List ℕ) (first : Option ℕ) → AreItsBytes test set →
    ((k : ℕ) → get_or bytes k 0 < 256) →
    IsFirstByte test bytes first → unwrap_or first (length bytes) ≡ over set bytes
found-over set test bytes None are low none =
    sym (all-over set bytes (λ k within e. none k (omega arith) within (sym (are (get_or bytes k 0) (low k)) ∙ e)))
found-over set test bytes (Some n) are low found =
    sym (over-to set bytes n found.0.high (λ k less e. found.0.before k (omega arith) less (sym (are (get_or bytes k 0) (low k)) ∙ e))
    (are (get_or bytes n 0) (low n) ∙ found.1))

pub passed : (set : List Bool) (test : ℕ → Bool) (bytes : List ℕ) (first : Option ℕ) → AreItsBytes test set →
    ((k : ℕ) → get_or bytes k 0 < 256) →
    IsFirstByte test bytes first → unwrap_or first (length bytes) ≡ length (take_while (λ b. not (in_set set b)) bytes)
passed set test bytes first are low found =
    found-over set test bytes first are low found
    ∙ sym (length-take-le (over set bytes) bytes (prefix_len-le-length (λ b. not (in_set set b)) bytes))

pub lists : (few : Few) (set : List Bool) → AreItsBytes (is_one_of few) set → Lists few set
lists (One a) set are = are
lists (Two a b) set are = are
lists (Three a b c) set are = are
lists Other set are = tt
