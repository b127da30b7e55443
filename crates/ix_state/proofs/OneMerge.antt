-- Layers are merged to one list.
use Rattle.std.proofs.Common.{◌≡◌, ℕ, Bool, true, false, List, [], ◌∷◌, refl, sym, ap, subst, ◌∙◌, Ordering}
use Rattle.std.specs.Prelude.{Some, None}
use Rattle.std.specs.List.{AllByRecursion}
use Rattle.std.specs.declared.cmp.Ordering.TheVariants.{Less, Equal, Greater}
use Rattle.std.specs.Ordering.{ordering_reverse, is_eq}
use Rattle.ix_conf.specs.declared.layers.Layer.{Layer}
use Rattle.ix_conf.specs.declared.layers.MergedEntry.{MergedEntry}
use Rattle.ix_conf.specs.Value.{place, place_cmp, is_at, entry_at, IsBefore, IsAscending, AreMerged}
use Rattle.ix_conf.proofs.MergeLemmas.{place_total, is_at_cmp, absent_behind, all_before, turned_before}

self_turned : (o : Ordering) → o ≡ ordering_reverse o → o ≡ Equal
self_turned Less h = cc
self_turned Equal h = refl
self_turned Greater h = cc

-- an entry is in its own place
pub own_place : (x : MergedEntry) → is_at x.stanza x.key x ≡ true
own_place x = is_at_cmp x.stanza x.key x ∙ ap is_eq (self_turned (place_cmp (place x) (place x)) (place_total.antisymm (place x) (place x)))

abbrev AreFoundAlike : List MergedEntry → List MergedEntry → Type 0
AreFoundAlike xs ys = (stanza key : List ℕ) → entry_at stanza key xs ≡ entry_at stanza key ys

found_first : (x : MergedEntry) (xs : List MergedEntry) → entry_at x.stanza x.key (x ∷ xs) ≡ Some x
found_first x xs = rw (own_place x) refl

none_before : (x : MergedEntry) (ys : List MergedEntry) → AllByRecursion (IsBefore x) ys → entry_at x.stanza x.key ys ≡ None
none_before x ys before = absent_behind x.stanza x.key x ys (own_place x) before

never_before : (x : MergedEntry) (xs ys : List MergedEntry) → AreFoundAlike (x ∷ xs) ys → AllByRecursion (IsBefore x) ys → ⊥
never_before x xs ys alike before =
    no (sym (found_first x xs) ∙ alike x.stanza x.key ∙ none_before x ys before)
  where
    no : Some x ≡ None → ⊥
    no e = cc

same_first : (x y : MergedEntry) (xs ys : List MergedEntry) → AreFoundAlike (x ∷ xs) (y ∷ ys) → place_cmp (place x) (place y) ≡ Equal →
    x ≡ y
same_first x y xs ys alike same =
    some (sym (found_first x xs) ∙ alike x.stanza x.key ∙ found_second)
  where
    found_second : entry_at x.stanza x.key (y ∷ ys) ≡ Some y
    found_second = rw (is_at_cmp x.stanza x.key y ∙ ap is_eq same) refl

    some : Some x ≡ Some y → x ≡ y
    some e = cc

tails_alike : (x : MergedEntry) (xs ys : List MergedEntry) → AllByRecursion (IsBefore x) xs → AllByRecursion (IsBefore x) ys
    → AreFoundAlike (x ∷ xs) (x ∷ ys) → AreFoundAlike xs ys
tails_alike x xs ys first second alike stanza key = by (is_at stanza key x) refl
  where
    by : (b : Bool) → is_at stanza key x ≡ b → entry_at stanza key xs ≡ entry_at stanza key ys
    by true e = absent_behind stanza key x xs e first ∙ sym (absent_behind stanza key x ys e second)
    by false e =
        let left : entry_at stanza key (x ∷ xs) ≡ entry_at stanza key xs = rw e refl in
        let right : entry_at stanza key (x ∷ ys) ≡ entry_at stanza key ys = rw e refl in
        sym left ∙ alike stanza key ∙ right

turned : (xs ys : List MergedEntry) → AreFoundAlike xs ys → AreFoundAlike ys xs
turned xs ys alike stanza key = sym (alike stanza key)

-- ascending entries are found by what stands at each place
pub one_list : (xs ys : List MergedEntry) → IsAscending xs → IsAscending ys → AreFoundAlike xs ys → xs ≡ ys
one_list [] [] left right alike = refl
one_list [] (y ∷ ys) left right alike = absurd (never_before y ys [] (turned [] (y ∷ ys) alike) tt)
one_list (x ∷ xs) [] left right alike = absurd (never_before x xs [] alike tt)
one_list (x ∷ xs) (y ∷ ys) left right alike = by (place_cmp (place x) (place y)) refl (λ rest. one_list xs ys left.1 right.1 rest)
  where
    by : (o : Ordering) → place_cmp (place x) (place y) ≡ o → (AreFoundAlike xs ys → xs ≡ ys) → x ∷ xs ≡ y ∷ ys
    by Less e again = absurd (never_before x xs (y ∷ ys) alike (e, all_before x y ys e right.0))
    by Greater e again =
        let before : IsBefore y x = turned_before x y e in
        absurd (never_before y ys (x ∷ xs) (turned (x ∷ xs) (y ∷ ys) alike) (before, all_before y x xs before left.0))
    by Equal e again =
        let same : x ≡ y = same_first x y xs ys alike e in
        let behind : AllByRecursion (IsBefore x) ys = subst (λ (z : MergedEntry). AllByRecursion (IsBefore z) ys) (sym same) right.0 in
        let alike' : AreFoundAlike (x ∷ xs) (x ∷ ys) = subst (λ (z : MergedEntry). AreFoundAlike (x ∷ xs) (z ∷ ys)) (sym same) alike in
        let rest : xs ≡ ys = again (tails_alike x xs ys left.0 behind alike') in
        ap (λ l. x ∷ l) rest ∙ ap (λ z. z ∷ ys) same

pub one_merge : (layers : List Layer) (xs ys : List MergedEntry) → AreMerged layers xs → AreMerged layers ys → xs ≡ ys
one_merge layers xs ys left right =
    one_list xs ys left.ascending right.ascending (λ stanza key. left.entry stanza key ∙ sym (right.entry stanza key))
