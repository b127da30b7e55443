-- How many staged items have a name of a number.
use Rattle.std.proofs.Common.{◌≡◌, ◌<◌, ◌≤◌, ◌+◌, ℕ, Bool, true, false, List, [], ◌∷◌, ◌++◌, length, take, drop, get_or, cond, Some, None}
use Rattle.std.proofs.Common.{refl, sym, ap, subst, ◌∙◌, arith}
use Rattle.std.specs.Prelude.{◌==◌, All, IsSome, IfSome, Option}
use Rattle.std.specs.BTreeMap.{BTreeMap}
use Rattle.std.specs.List.{AllByRecursion, count_by, sum_by}
use Rattle.std.proofs.lemmas.Bool.Decides.{nat_tests}
use Rattle.std.proofs.lemmas.List.Sums.{count_by_more_yes, sum_by-append, sum_by-cons, sum_by-take-le}
use Rattle.std.proofs.lemmas.List.Elements.{All-from_recursion}
use Rattle.ix_manifest.specs.Book.{Name, name_of, is_same}
use Rattle.ix_manifest.specs.Keys.{key, key_in}
use Rattle.ix_manifest.specs.Repeats.{under, Tells}
use Rattle.ix_manifest.specs.Slots.{without}
use Rattle.ix_manifest.specs.declared.staged_item.StagedItem.{StagedItem}
use Rattle.ix_manifest.proofs.Renaming.{same_name, split_at}

-- ---- one that is taken away

fewer : (n : ℕ) (slots : List StagedItem) (at : ℕ) (d : StagedItem) → at < length slots → under n (without at slots) ≤ under n slots
fewer n slots at d within =
    let f = λ (s : StagedItem). cond (key_in s.item == n) 1 0 in
    let whole = ap (sum_by f) (split_at slots at d within) in
    let both = sum_by-append f (take at slots) (get_or slots at d ∷ drop (at + 1) slots) in
    let left = sum_by-append f (take at slots) (drop (at + 1) slots) in
    let more = sum_by-cons f (get_or slots at d) (drop (at + 1) slots) in
    omega (arith, whole, both, left, more)

pub tells_without : (seen : BTreeMap ℕ Bool) (slots : List StagedItem) (at : ℕ) (d : StagedItem) → at < length slots → Tells seen slots →
    Tells seen (without at slots)
tells_without seen slots at d within tells = λ n.
    let less = fewer n slots at d within in
    ((λ some. (tells n).0 (omega (arith, less, some))), (λ more. (tells n).1 (omega (arith, less, more))))

pub maybe_without : (seen : Option (BTreeMap ℕ Bool)) (slots : List StagedItem) (at : ℕ) (d : StagedItem) → at < length slots →
    IfSome seen (λ s. Tells s slots) → IfSome seen (λ s. Tells s (without at slots))
maybe_without None slots at d within tells = tt
maybe_without (Some s) slots at d within tells = tells_without s slots at d within tells

-- ---- one that stands alone

others : (n : ℕ) (slots : List StagedItem) → under n slots ≡ 0 → (name : Name) → key name ≡ n →
    AllByRecursion (λ (s : StagedItem). is_same (name_of s.item) name ≡ false) slots
others n [] none name is = tt
others n (s ∷ slots) none name is = (by (is_same (name_of s.item) name) refl, others n slots (omega (arith, none, sum)) name is)
  where
    sum : under n (s ∷ slots) ≡ cond (key_in s.item == n) 1 0 + under n slots
    sum = sum_by-cons (λ (x : StagedItem). cond (key_in x.item == n) 1 0) s slots

    by : (t : Bool) → is_same (name_of s.item) name ≡ t → is_same (name_of s.item) name ≡ false
    by false told = told
    by true told =
        let same : key_in s.item ≡ n = ap key (same_name (name_of s.item) name told) ∙ is in
        let yes : (key_in s.item == n) ≡ true = grind (arith, nat_tests) in
        let one : under n (s ∷ slots) ≡ 1 + under n slots = sum ∙ ap (λ (t : Bool). cond t 1 0 + under n slots) yes in
        absurd (omega (arith, none, one))

pub alone : (slots : List StagedItem) (k : ℕ) (d : StagedItem) → k < length slots → under (key_in (get_or slots k d).item) slots ≤ 1
    → All (λ (s : StagedItem). is_same (name_of s.item) (name_of (get_or slots k d).item) ≡ false) (take k slots)
alone slots k d within few =
    let x = get_or slots k d in
    let n = key_in x.item in
    let p = λ (s : StagedItem). key_in s.item == n in
    let yes : p x ≡ true = grind (arith, nat_tests) in
    let more = count_by_more_yes p slots k d within yes in
    let less = sum_by-take-le (λ (s : StagedItem). cond (p s) 1 0) slots (k + 1) in
    All-from_recursion (λ (s : StagedItem). is_same (name_of s.item) (name_of x.item) ≡ false) (take k slots)
    (others n (take k slots) (omega (arith, few, more, less)) (name_of x.item) refl)
