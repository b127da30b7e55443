-- The items of a state in another order.
use Rattle.std.proofs.Common.{◌≡◌, ◌≤◌, ℕ, Bool, true, false, List, [], ◌∷◌, refl, sym, ap, subst, arith}
use Rattle.std.specs.Prelude.{if◌then◌else◌}
use Rattle.std.specs.List.{AllByRecursion, sum_by}
use Rattle.std.specs.List.Sorted.{IsPermutation}
use Rattle.std.proofs.lemmas.List.Elements.{All-from_recursion, recursion_from_All}
use Rattle.std.proofs.lemmas.List.Sorted.{IsPermutation-sym, All-permutation, sum_by-IsPermutation}
use Rattle.std.proofs.lemmas.List.Sums.{sum_by-cons}
use Rattle.ix_manifest.specs.Book.{Name, NamedItems, NoneUnder, name_of, is_same}
use Rattle.ix_manifest.specs.Slots.{AreOnce}
use Rattle.ix_manifest.proofs.Renaming.{same_name}
use Rattle.ix_items.specs.declared.items.Item.{Item}
use Rattle.ix_model.specs.Given.{Chooser}
use Rattle.ix_model.specs.Step.{state_after}
use Rattle.ix_model.specs.declared.commands.TimedCommand.{TimedCommand}
use Rattle.ix_model.proofs.Ascending.{in_order_after}
use Rattle.ix_model.proofs.Named.{by_test}
use Rattle.ix_model.proofs.Stepping.{sound_after}
use Rattle.ix_replay.specs.Lists.{IsLeft, Lists}
use Rattle.ix_model.specs.Snap.{snapshot_of}
use Rattle.ix_recovery.specs.Among.{IsAmong}
use Rattle.ix_recovery.specs.ListLaws.{ItemsLead}
use Rattle.ix_recovery.specs.Listed.{left_items}
use Rattle.ix_recovery.proofs.Booked.{StandsIn, same_names, lists_by, is_in, stands}
use Rattle.ix_recovery.proofs.Listing.{lists_first, lists_state}
use Rattle.ix_recovery.proofs.Members.{all_among, every_among}

-- ---- names of their own, counted

-- how often an item is under a name
abbrev under : Name → Item → ℕ
under n x = if is_same (name_of x) n then 1 else 0

under_one : (n : Name) (x : Item) → is_same (name_of x) n ≡ true → under n x ≡ 1
under_one n x t = ap (λ (b : Bool). if b then 1 else 0) t

under_none : (n : Name) (x : Item) → is_same (name_of x) n ≡ false → under n x ≡ 0
under_none n x t = ap (λ (b : Bool). if b then 1 else 0) t

none_counted : (n : Name) (xs : List Item) → NoneUnder n xs → sum_by (under n) xs ≡ 0
none_counted n [] none = refl
none_counted n (x ∷ xs) none =
    let a = sum_by-cons (under n) x xs in
    let b = under_none n x none.0 in
    let c = none_counted n xs none.1 in
    omega (arith, a, b, c)

none_from : (n : Name) (xs : List Item) → sum_by (under n) xs ≤ 0 → NoneUnder n xs
none_from n [] few = tt
none_from n (x ∷ xs) few =
    let a = sum_by-cons (under n) x xs in (
      by_test (is_same (name_of x) n) (λ t. absurd (let b = under_one n x t in omega (arith, a, b, few))) (λ t. t),
      none_from n xs (omega (arith, a, few)),
    )

once_counted : (n : Name) (xs : List Item) → AreOnce xs → sum_by (under n) xs ≤ 1
once_counted n [] once = omega arith
once_counted n (x ∷ xs) once =
    let a = sum_by-cons (under n) x xs in
    by_test (is_same (name_of x) n)
    (λ t. (let b = under_one n x t in
    let c = none_counted n xs (subst (λ (m : Name). NoneUnder m xs) (same_name (name_of x) n t) once.0) in
    omega (arith, a, b, c)))
    (λ t. (let b = under_none n x t in let c = once_counted n xs once.1 in omega (arith, a, b, c)))

once_from : (xs : List Item) → ((n : Name) → sum_by (under n) xs ≤ 1) → AreOnce xs
once_from [] few = tt
once_from (x ∷ xs) few = (
  none_from (name_of x) xs (let a = sum_by-cons (under (name_of x)) x xs in let b = under_one (name_of x) x (same_names (name_of x)) in
      let c = few (name_of x) in omega (arith, a, b, c)),
  once_from xs (λ n. (let a = sum_by-cons (under n) x xs in let b = few n in omega (arith, a, b))),
)

-- ---- another order

module _ (a b : List Item) (book : NamedItems) (lists : Lists a book) (moved : IsPermutation a b) where
  to_other : (P : Item → Type 0) → AllByRecursion P a → AllByRecursion P b
  to_other P h = recursion_from_All P b (All-permutation P a b moved (All-from_recursion P a h))

  among_other : (x : Item) → IsAmong x a → IsAmong x b
  among_other x at =
      let in_b = All-from_recursion (λ (y : Item). IsAmong y b) b (every_among (λ (y : Item). IsAmong y b) b (λ y h. h)) in
      let in_a = All-permutation (λ (y : Item). IsAmong y b) b a (IsPermutation-sym a b moved) in_b in
      all_among (λ (y : Item). IsAmong y b) x a (recursion_from_All (λ (y : Item). IsAmong y b) a in_a) at

  pub lists_other : Lists b book
  lists_other =
      lists_by b book
      (record {
        once = once_from b (λ n. subst (λ (s : ℕ). s ≤ 1) (sym (sum_by-IsPermutation (under n) a b moved))
            (once_counted n a lists.listed.once));
        left = to_other IsLeft lists.listed.left;
      })
      (to_other (StandsIn book) (every_among (StandsIn book) a (stands a book lists)))
      (λ name x e. (let at = is_in a book lists name x e in (among_other x at.0, at.1)))

-- ---- the items of a state

lists_left : (choose : Chooser) (history : List TimedCommand) → Lists (left_items choose history) (snapshot_of choose history).book
lists_left choose [] = lists_first
lists_left choose (o ∷ history) = lists_state (state_after choose (o ∷ history)) (in_order_after choose (o ∷ history))
    (sound_after choose (o ∷ history))

pub items_lead : ItemsLead
items_lead choose history said moved = sym (lists_other (left_items choose history) said (snapshot_of choose history).book
    (lists_left choose history) moved).stands
