-- What a store counts, behind a further command.
use Rattle.std.proofs.Common.{◌≡◌, ◌≤◌, ◌<◌, ◌+◌, ℕ, zero, suc, true, false, List, [], ◌∷◌, ◌++◌, length, take, drop, refl, sym, ap, ◌∙◌}
use Rattle.std.proofs.Common.{arith, append_assoc}
use Rattle.std.specs.Prelude.{nat_lt, ◌||◌, get_or}
use Rattle.std.specs.List.{AllByRecursion}
use native.Mathlib.Numerals.{unary_clauses}
use Rattle.std.proofs.lemmas.Bool.Decides.{nat_tests}
use Rattle.std.proofs.lemmas.List.Folds.{list_any-append}
use Rattle.std.proofs.lemmas.List.Sums.{sum_by-append}
use Rattle.ix_model.specs.declared.commands.TimedCommand.{TimedCommand}
use Rattle.ix_store.specs.Counting.{numbers, weights, has_turn, capped}

pub numbers_more : (a b : List TimedCommand) → numbers (a ++ b) ≡ numbers a + numbers b
numbers_more a b = sum_by-append _ a b

pub weights_more : (a b : List TimedCommand) → weights (a ++ b) ≡ weights a + weights b
weights_more a b = sum_by-append _ a b

pub has_turn_more : (a b : List TimedCommand) → has_turn (a ++ b) ≡ (has_turn a || has_turn b)
has_turn_more a b = list_any-append _ a b

-- ---- lists

pub drop_more : {X : Type 0} (n : ℕ) (a b : List X) → n ≤ length a → drop n (a ++ b) ≡ drop n a ++ b
drop_more zero a b le = refl
drop_more (suc n) [] b le = absurd (omega (arith, le))
drop_more (suc n) (x ∷ a) b le = drop_more n a b (omega (arith, le))

pub take_more : {X : Type 0} (n : ℕ) (a b : List X) → n ≤ length a → take n (a ++ b) ≡ take n a
take_more zero a b le = refl
take_more (suc n) [] b le = absurd (omega (arith, le))
take_more (suc n) (x ∷ a) b le = ap (λ (l : List _). x ∷ l) (take_more n a b (omega (arith, le)))

pub drop_taken : {X : Type 0} (n : ℕ) (a : List X) → drop n (take n a) ≡ []
drop_taken zero a = refl
drop_taken (suc n) [] = refl
drop_taken (suc n) (x ∷ a) = drop_taken n a

pub drop_whole : {X : Type 0} (a : List X) → drop (length a) a ≡ []
drop_whole [] = refl
drop_whole (x ∷ a) = drop_whole a

pub take_whole : {X : Type 0} (a : List X) → take (length a) a ≡ a
take_whole [] = refl
take_whole (x ∷ a) = ap (λ (l : List _). x ∷ l) (take_whole a)

pub take_taken : {X : Type 0} (n : ℕ) (a : List X) → take n (take n a) ≡ take n a
take_taken zero a = refl
take_taken (suc n) [] = refl
take_taken (suc n) (x ∷ a) = ap (λ (l : List _). x ∷ l) (take_taken n a)

pub length_taken : {X : Type 0} (n : ℕ) (a : List X) → n ≤ length a → length (take n a) ≡ n
length_taken zero a le = refl
length_taken (suc n) [] le = absurd (omega (arith, le))
length_taken (suc n) (x ∷ a) le = ap suc (length_taken n a (omega (arith, le)))

-- ---- counts

pub capped_more : (a b : ℕ) → capped (capped a + b) ≡ capped (a + b)
capped_more a b = omega arith

pub is_below : (k n : ℕ) → k < n → nat_lt k n ≡ true
is_below k n lt = grind (arith, nat_tests)

pub not_below : (k : ℕ) → nat_lt k k ≡ false
not_below k = grind (arith, nat_tests)

-- ---- files side by side

pub all_push : {X : Type 0} (P : X → Type 0) (list : List X) (x : X) → AllByRecursion P list → P x → AllByRecursion P (list ++ x ∷ [])
all_push P [] x all p = (p, tt)
all_push P (y ∷ list) x all p = (all.0, all_push P list x all.1 p)

take_suc : {X : Type 0} (xs : List X) (k : ℕ) (d : X) → k < length xs → take (suc k) xs ≡ take k xs ++ get_or xs k d ∷ []
take_suc [] k d l = absurd (omega (arith, l))
take_suc (x ∷ xs) zero d l = refl
take_suc (x ∷ xs) (suc k) d l = ap (λ (l : List _). x ∷ l) (take_suc xs k d (omega (arith, l)))

pub taken_one : {X : Type 0} (xs : List X) (k : ℕ) (d : X) → k < length xs → take (k + 1) xs ≡ take k xs ++ get_or xs k d ∷ []
taken_one xs k d l = simp unary_clauses (take_suc xs k d l)

pub appended : {X : Type 0} (base list now xs : List X) (i : ℕ) (d : X) → now ≡ list ++ get_or xs i d ∷ [] → list ≡ base ++ take i xs →
    i < length xs → now ≡ base ++ take (i + 1) xs
appended base list now xs i d is so_far l =
    is ∙ ap (λ (l : List _). l ++ get_or xs i d ∷ []) so_far ∙ append_assoc base (take i xs) (get_or xs i d ∷ [])
    ∙ ap (λ (l : List _). base ++ l) (sym (taken_one xs i d l))
