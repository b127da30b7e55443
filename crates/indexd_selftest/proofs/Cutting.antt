-- Lines are laid out, and blocks are cut off.
use Rattle.std.proofs.Common.{◌≡◌, ◌≢◌, ◌<◌, ◌≤◌, ◌+◌, ◌-◌, ◌⊎◌, ◌∙◌, ℕ, suc, zero, min, Bool, true, false, List, [], ◌∷◌, ◌++◌, length}
use Rattle.std.proofs.Common.{drop, take, refl, sym, ap, inl, inr, arith, append_assoc, length-drop}
use Rattle.std.specs.Prelude.{nat_le}
use Rattle.std.proofs.lemmas.Bool.Decides.{nat_tests}
use Rattle.std.proofs.lemmas.List.{append-nil, take_all, drop_all, take-append-le, drop-append-le}
use Rattle.indexd_selftest.specs.Blocks.{IsCutOff, left, next, size}
use Rattle.indexd_selftest.specs.Lines.{line, lines_from}
use Rattle.indexd_selftest.specs.declared.generator.Generator.{Generator}

-- a line that is laid out is the first of those that come
pub laid_out : (ahead : List ℕ) (number last : ℕ) → number < last →
    (ahead ++ line number) ++ lines_from (number + 1) (last - (number + 1)) ≡ ahead ++ lines_from number (last - number)
laid_out ahead number last more =
    let step : last - number ≡ suc (last - (number + 1)) = omega (arith, more) in
    append_assoc ahead (line number) (lines_from (number + 1) (last - (number + 1)))
    ∙ ap (λ (l : List ℕ). ahead ++ l) (sym (ap (lines_from number) step))

-- no line comes
none_come : (number last : ℕ) → last ≤ number → lines_from number (last - number) ≡ []
none_come number last past =
    let none : last - number ≡ zero = omega (arith, past) in
    ap (lines_from number) none

split : (a b : ℕ) (t : Bool) → nat_le a b ≡ t → (a ≤ b) ⊎ (b ≤ a)
split a b true is = inl (grind (arith, nat_tests))
split a b false is = inr (grind (arith, nat_tests))

-- a front of at most so many bytes, of which there are as many or no more come
min_taken : (n : ℕ) (l : List ℕ) → (n ≤ length l) ⊎ (length l ≤ n) → take (min n (length l)) l ≡ take n l
min_taken n l (inl le) = let is : min n (length l) ≡ n = omega (arith, le) in ap (λ (k : ℕ). take k l) is
min_taken n l (inr ge) =
    let is : min n (length l) ≡ length l = omega (arith, ge) in
    ap (λ (k : ℕ). take k l) is ∙ take_all (length l) l (omega arith) ∙ sym (take_all n l ge)

min_dropped : (n : ℕ) (l : List ℕ) → (n ≤ length l) ⊎ (length l ≤ n) → drop (min n (length l)) l ≡ drop n l
min_dropped n l (inl le) = let is : min n (length l) ≡ n = omega (arith, le) in ap (λ (k : ℕ). drop k l) is
min_dropped n l (inr ge) =
    let is : min n (length l) ≡ length l = omega (arith, ge) in
    ap (λ (k : ℕ). drop k l) is ∙ drop_all (length l) l (omega arith) ∙ sym (drop_all n l ge)

front_taken : (n : ℕ) (ahead rest : List ℕ) → (n ≤ length ahead) ⊎ (rest ≡ []) → take n ahead ≡ take n (ahead ++ rest)
front_taken n ahead rest (inl within) = sym (take-append-le n ahead rest within)
front_taken n ahead rest (inr none) = ap (take n) (sym (ap (λ (l : List ℕ). ahead ++ l) none ∙ append-nil ahead))

front_dropped : (n : ℕ) (ahead rest : List ℕ) → (n ≤ length ahead) ⊎ (rest ≡ []) → drop n ahead ++ rest ≡ drop n (ahead ++ rest)
front_dropped n ahead rest (inl within) = sym (drop-append-le n ahead rest within)
front_dropped n ahead rest (inr none) =
    ap (λ (l : List ℕ). drop n ahead ++ l) none ∙ append-nil (drop n ahead)
    ∙ ap (drop n) (sym (ap (λ (l : List ℕ). ahead ++ l) none ∙ append-nil ahead))

size_taken : (n : ℕ) (l : List ℕ) → take (min n (length l)) l ≡ take n l
size_taken n l = min_taken n l (split n (length l) (nat_le n (length l)) refl)

size_dropped : (n : ℕ) (l : List ℕ) → drop (min n (length l)) l ≡ drop n l
size_dropped n l = min_dropped n l (split n (length l) (nat_le n (length l)) refl)

-- what is lent of a list, up to so many bytes or behind them
pub taken_by : (n most : ℕ) (l lent block : List ℕ) → lent ≡ l → n ≡ min most (length lent) → block ≡ take n lent → block ≡ take most l
taken_by n most l lent block same is was =
    was ∙ ap (λ (k : ℕ). take k lent) is ∙ size_taken most lent ∙ ap (take most) same

whole_rest : (n : ℕ) (l : List ℕ) → take (length l - n) (drop n l) ≡ drop n l
whole_rest n l = let is = length-drop n l in take_all (length l - n) (drop n l) (omega (arith, is))

pub rest_by : (n most : ℕ) (l lent rest : List ℕ) → lent ≡ l → n ≡ min most (length lent) →
    rest ≡ take (length lent - n) (drop n lent) → rest ≡ drop most l
rest_by n most l lent rest same is was =
    was ∙ whole_rest n lent ∙ ap (λ (k : ℕ). drop k lent) is ∙ size_dropped most lent ∙ ap (drop most) same

empty_is : (l : List ℕ) → length l ≡ 0 → l ≡ []
empty_is [] is = refl
empty_is (b ∷ l) is = absurd (never (length l) is)
  where
    never : (n : ℕ) → suc n ≡ 0 → ⊥
    never n e = omega (arith, e)

-- where nothing was laid out, nothing is left
pub none_left : (old mid : Generator) (n : ℕ) → left mid ≡ left old → (suc n ≤ length mid.ahead) ⊎ (mid.end ≤ mid.next) →
    length mid.ahead ≡ 0 → left old ≡ []
none_left old mid n same (inl some) none = absurd (never (length mid.ahead) some none)
  where
    never : (k : ℕ) → suc n ≤ k → k ≡ 0 → ⊥
    never k some none = omega (arith, some, none)
none_left old mid n same (inr past) none =
    sym same ∙ ap (λ (l : List ℕ). l ++ lines_from mid.next (mid.end - mid.next)) (empty_is mid.ahead none)
    ∙ none_come mid.next mid.end past

or_none : (n : ℕ) (mid : Generator) → (n ≤ length mid.ahead) ⊎ (mid.end ≤ mid.next) →
    (n ≤ length mid.ahead) ⊎ (lines_from mid.next (mid.end - mid.next) ≡ [])
or_none n mid (inl some) = inl some
or_none n mid (inr past) = inr (none_come mid.next mid.end past)

not_empty : (a b : List ℕ) → (length a ≡ 0 → ⊥) → a ++ b ≢ []
not_empty [] b some is = some refl
not_empty (x ∷ a) b some is = cc

-- what was laid out, but for what is taken of it, is what is left behind a block
pub cut_off : (old mid new : Generator) (block : List ℕ) → left mid ≡ left old →
    (size (next old.x) ≤ length mid.ahead) ⊎ (mid.end ≤ mid.next) → (length mid.ahead ≡ 0 → ⊥) →
    block ≡ take (size (next old.x)) mid.ahead → new.ahead ≡ drop (size (next old.x)) mid.ahead → new.next ≡ mid.next →
    new.end ≡ mid.end → new.x ≡ next old.x → IsCutOff old new block
cut_off old mid new block same enough some is rest number last x = record {
  some = λ none. not_empty mid.ahead (lines_from mid.next (mid.end - mid.next)) some (same ∙ none);
  block_is = is
      ∙ front_taken (size (next old.x)) mid.ahead (lines_from mid.next (mid.end - mid.next)) (or_none (size (next old.x)) mid enough)
      ∙ ap (take (size (next old.x))) same;
  x = x;
  left_is = (let P : ℕ → ℕ → List ℕ = λ (k l : ℕ). new.ahead ++ lines_from k (l - k) in
      ap (λ (k : ℕ). P k new.end) number ∙ ap (λ (l : ℕ). P mid.next l) last)
      ∙ ap (λ (a : List ℕ). a ++ lines_from mid.next (mid.end - mid.next)) rest
      ∙ front_dropped (size (next old.x)) mid.ahead (lines_from mid.next (mid.end - mid.next)) (or_none (size (next old.x)) mid enough)
      ∙ ap (drop (size (next old.x))) same;
}
