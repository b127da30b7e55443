-- Two lists of one book are one list in two orders.
use Rattle.std.proofs.Common.{◌≡◌, ◌⊎◌, inl, inr, ℕ, ◌≤◌, ◌<◌, ◌^◌, List, [], ◌∷◌, ◌++◌, Bool, true, false, Option, Some, None}
use Rattle.std.proofs.Common.{if◌then◌else◌, refl, ap, subst, sym, ◌∙◌}
use Rattle.std.specs.Prelude.{All, ◌&&◌}
use Rattle.std.proofs.lemmas.Bool.Decides.{Decides-eqb}
use Rattle.std.proofs.lemmas.Slice.Eq.{bytes_eq-Decides}
use Rattle.std.specs.List.{AllByRecursion, sum_by}
use Rattle.std.specs.List.Sorted.{IsPermutation}
use Rattle.std.proofs.lemmas.List.Sorted.{IsPermutation-refl, IsPermutation-cons, IsPermutation-sym, IsPermutation-trans}
use Rattle.std.proofs.lemmas.List.Sorted.{IsPermutation-middle, All-permutation, sum_by-IsPermutation}
use Rattle.ix_items.specs.declared.items.Item.{Item}
use Rattle.ix_manifest.specs.Book.{Name, NamedItems, empty, name_of, is_same, left_by, after_item, replay, removals_in}
use Rattle.ix_manifest.proofs.InPlace.{none_under, passes, inserted}
use Rattle.ix_manifest.proofs.Renaming.{same_name, chosen_other}
use Rattle.ix_replay.specs.Amounts.{uses, next_in, bytes_in, events_in, channels_in, size_in}
use Rattle.ix_replay.specs.Bounds.{IsWithin, IsSpared, KeepsBounds}
use Rattle.ix_replay.specs.Lists.{IsLeft, AreListed, AreOneList, HaveOneSum}
use Rattle.ix_replay.specs.Fits.{fits, AllKeepBounds}
use Rattle.ix_replay.proofs.ListSteps.{none_behind, others_of, list_without}

abbrev held : Item → Option Item → Item
held other None = other
held other (Some item) = item

chosen : (test told : Bool) (x y : Option Item) → test ≡ told → (if test then x else y) ≡ (if told then x else y)
chosen test told x y is = ap (λ (t : Bool). if t then x else y) is

same_self : (a : Name) → is_same a a ≡ true
same_self a =
    let kinds = (Decides-eqb a.kind a.kind).1 refl in
    let texts = (bytes_eq-Decides a.text a.text).1 refl in
    let numbers = (Decides-eqb a.number a.number).1 refl in
    λ i. kinds i && (texts i && numbers i)

-- the first of a list stands
pub first_stands : (x : Item) (items : List Item) → AreListed (x ∷ items) → replay (x ∷ items) empty (name_of x) ≡ Some x
first_stands x items listed = none_under items (name_of x) (after_item x empty) listed.once.0 ∙ over (is_same (name_of x) (name_of x)) refl
  where
    over : (test : Bool) → is_same (name_of x) (name_of x) ≡ test → after_item x empty (name_of x) ≡ Some x
    over true is = chosen (is_same (name_of x) (name_of x)) true (left_by x) None is ∙ listed.left.0
    over false is =
        let both : true ≡ false = sym (same_self (name_of x)) ∙ is in
        absurd cc

-- what stands is in the list
found : (list : List Item) (name : Name) (x : Item) (start : NamedItems) → AllByRecursion IsLeft list → replay list start name ≡ Some x →
    (start name ≡ Some x) ⊎ ((xs : List Item) × (ys : List Item) × (list ≡ xs ++ x ∷ ys))
found [] name x start left is = inl is
found (y ∷ list) name x start left is = go (found list name x (after_item y start) left.1 is)
  where
    here : (test : Bool) → is_same (name_of y) name ≡ test → after_item y start name ≡ Some x → (start name ≡ Some x)
        ⊎ ((xs : List Item) × (ys : List Item) × (y ∷ list ≡ xs ++ x ∷ ys))
    here true same there =
        let one : Some y ≡ Some x = sym left.0 ∙ sym (chosen (is_same (name_of y) name) true (left_by y) (start name) same) ∙ there in
        inr ([], list, ap (λ (o : Option Item). held y o ∷ list) one)
    here false other there = inl (sym (chosen_other (is_same (name_of y) name) (left_by y) (start name) other) ∙ there)

    go : (after_item y start name ≡ Some x) ⊎ ((xs : List Item) × (ys : List Item) × (list ≡ xs ++ x ∷ ys)) → (start name ≡ Some x)
        ⊎ ((xs : List Item) × (ys : List Item) × (y ∷ list ≡ xs ++ x ∷ ys))
    go (inl there) = here (is_same (name_of y) name) refl there
    go (inr split) = inr (y ∷ split.0, split.1, ap (λ (l : List Item). y ∷ l) split.2)

-- without an item that stands in both the books are the same
both_without : (x : Item) (list xs ys : List Item) → AreListed (x ∷ list) → AreListed (xs ++ x ∷ ys) →
    replay (x ∷ list) empty ≡ replay (xs ++ x ∷ ys) empty → replay list empty ≡ replay (xs ++ ys) empty
both_without x list xs ys one two same = λ i name. at name (is_same (name_of x) name) refl i
  where
    at : (name : Name) (test : Bool) → is_same (name_of x) name ≡ test → replay list empty name ≡ replay (xs ++ ys) empty name
    at name true is =
        let mine : name_of x ≡ name = same_name (name_of x) name is in
        ap (λ (n : Name). replay list empty n) (sym mine) ∙ none_under list (name_of x) empty one.once.0
        ∙ sym (none_under (xs ++ ys) (name_of x) empty (others_of xs x ys two.once)) ∙ ap (λ (n : Name). replay (xs ++ ys) empty n) mine
    at name false is =
        sym (chosen_other (is_same (name_of x) name) (left_by x) (replay list empty name) is)
        ∙ sym (ap (λ (b : NamedItems). b name) (passes x list empty one.once.0))
        ∙ ap (λ (b : NamedItems). b name) same
        ∙ ap (λ (b : NamedItems). b name) (inserted xs ys x empty (none_behind xs x ys two.once))
        ∙ chosen_other (is_same (name_of x) name) (left_by x) (replay (xs ++ ys) empty name) is

pub one_list : (a b : List Item) → AreListed a → AreListed b → replay a empty ≡ replay b empty → IsPermutation a b
one_list [] [] one two same = IsPermutation-refl []
one_list [] (y ∷ b) one two same =
    let none : None ≡ Some y = ap (λ (k : NamedItems). k (name_of y)) same ∙ first_stands y b two in
    absurd cc
one_list (x ∷ a) b one two same = go (λ xs ys listed is. one_list a (xs
    ++ ys) (record { once = one.once.1; left = one.left.1 }) (list_without xs x ys listed) (both_without x a xs ys one listed is))
    (found b (name_of x) x empty two.left (ap (λ (k : NamedItems). k (name_of x)) (sym same) ∙ first_stands x a one))
  where
    go : ((xs ys : List Item) → AreListed (xs ++ x ∷ ys) → replay (x ∷ a) empty ≡ replay (xs ++ x ∷ ys) empty → IsPermutation a (xs ++ ys))
        → (empty (name_of x) ≡ Some x) ⊎ ((xs : List Item) × (ys : List Item) × (b ≡ xs ++ x ∷ ys)) → IsPermutation (x ∷ a) b
    go rest (inl none) = absurd cc
    go rest (inr at) =
        let xs = at.0 in
        let ys = at.1 in
        let moved = rest xs ys (subst AreListed at.2 two) (same ∙ ap (λ (l : List Item). replay l empty) at.2) in
        let front = IsPermutation-sym (xs ++ x ∷ ys) (x ∷ (xs ++ ys)) (IsPermutation-middle xs x ys) in
        subst (IsPermutation (x ∷ a)) (sym at.2) (IsPermutation-trans (x ∷ a) (x ∷ (xs ++ ys)) (xs ++ x
        ∷ ys) (IsPermutation-cons x a (xs ++ ys) moved) front)

pub one_book : AreOneList
one_book book a b one two = one_list a b one.listed two.listed (sym one.stands ∙ two.stands)

pub one_sum : HaveOneSum
one_sum book a b one two count = sym (sum_by-IsPermutation count a b (one_book book a b one two))

-- ---- the bounds

pub keeps_too : (a b : List Item) → IsPermutation a b → replay a empty ≡ replay b empty → KeepsBounds a → KeepsBounds b
keeps_too a b moved same keeps = record {
  within = All-permutation IsWithin a b moved keeps.within;
  apart = record {
    one_each = λ n. subst (λ (s : ℕ). s ≤ 1) (sums (uses n)) (keeps.apart.one_each n);
    from_one = subst (λ (s : ℕ). s ≤ 0) (sums (uses 0)) keeps.apart.from_one;
    below = λ n least. subst (λ (s : ℕ). s ≤ 0) (sums (uses n))
        (keeps.apart.below n (subst (λ (k : NamedItems). next_in k ≤ n) (sym same) least));
  };
  spared = All-permutation (IsSpared (removals_in (replay b empty))) a b moved
      (subst (λ (k : NamedItems). All (IsSpared (removals_in k)) a) same keeps.spared);
  bytes = subst (λ (s : ℕ). s < 2 ^ 63) (sums bytes_in) keeps.bytes;
  events = subst (λ (s : ℕ). s < 2 ^ 63) (sums events_in) keeps.events;
  channels = subst (λ (s : ℕ). s ≤ 256) (sums channels_in) keeps.channels;
  size = subst (λ (s : ℕ). s < 2 ^ 29) (sums size_in) keeps.size;
}
  where
    sums : (f : Item → ℕ) → sum_by f a ≡ sum_by f b
    sums f = sym (sum_by-IsPermutation f a b moved)

pub all_keep : AllKeepBounds
all_keep book list fit is = keeps_too fit.0 list (one_book book fit.0 list fit.1 is) (sym fit.1.stands ∙ is.stands) fit.2

-- a book fits where a list of it keeps the bounds, and then each does
pub keeps_from_fits : (list : List Item) → AreListed list → fits (replay list empty) → KeepsBounds list
keeps_from_fits list listed fit = keeps_too fit.0 list (one_list fit.0 list fit.1.listed listed (sym fit.1.stands)) (sym fit.1.stands) fit.2

pub fits_from_keeps : (list : List Item) → AreListed list → KeepsBounds list → fits (replay list empty)
fits_from_keeps list listed keeps = (list, record { stands = refl; listed = listed }, keeps)
