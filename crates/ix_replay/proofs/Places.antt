-- A list of what stands, whose places are known by the numbers of names.
use Rattle.std.proofs.Common.{suc, ◌≡◌, ℕ, ◌+◌, ◌-◌, ◌<◌, ◌≤◌, length, get_or, set, take, drop, List, [], ◌∷◌, ◌++◌, Bool, true, false}
use Rattle.std.proofs.Common.{Some, cond, refl, ap, subst, sym, ◌∙◌, arith, append_assoc, length-append}
use Rattle.std.specs.Prelude.{IsSome}
use Rattle.std.specs.BTreeMap.{BTreeMap, Updates, get, is_at}
use Rattle.std.specs.List.{AllByRecursion, swap_remove}
use Rattle.std.specs.Ordering.{nat_cmp}
use Rattle.std.specs.List.Sorted.{IsPermutation}
use Rattle.std.proofs.lemmas.List.Sorted.{IsPermutation-refl, IsPermutation-sym, IsPermutation-middle, IsPermutation-to_front}
use Rattle.std.proofs.lemmas.List.Sorted.{IsPermutation-append_right}
use Rattle.std.proofs.lemmas.List.{set_split, set_at, take_at, take-set, get_or_at, length_push, length-take-le, take_all, drop_all}
use Rattle.std.proofs.lemmas.List.Elements.{All-set, All-push, All-take, All-weaker}
use Rattle.ix_items.specs.declared.items.Item.{Item}
use Rattle.ix_manifest.specs.Book.{Name, NoneUnder, empty, name_of, is_same, is_there, left_by, after_item, replay}
use Rattle.ix_manifest.specs.Slots.{AreOnce}
use Rattle.ix_manifest.proofs.Applying.{replay_behind}
use Rattle.ix_manifest.proofs.InPlace.{in_place, inserted}
use Rattle.ix_manifest.proofs.Renaming.{same_name}
use Rattle.ix_manifest.specs.Keys.{key_in, key}
use Rattle.ix_replay.specs.Known.{AreKnown}
use Rattle.ix_replay.specs.Lists.{IsLeft, AreListed}
use Rattle.ix_replay.proofs.ListSteps.{stays_so, none_behind, other_way, split_at, book_removed, list_removed}

-- ---- in place

none_named : (name : Name) (xs : List Item) (x : Item) (ys : List Item) (item : Item) → name_of x ≡ name_of item →
    NoneUnder name (xs ++ x ∷ ys) → NoneUnder name (xs ++ item ∷ ys)
none_named name [] x ys item names none = (subst (λ (n : Name). is_same n name ≡ false) names none.0, none.1)
none_named name (z ∷ xs) x ys item names none = (none.0, none_named name xs x ys item names none.1)

once_named : (xs : List Item) (x : Item) (ys : List Item) (item : Item) → name_of x ≡ name_of item → AreOnce (xs ++ x ∷ ys) →
    AreOnce (xs ++ item ∷ ys)
once_named [] x ys item names once = (subst (λ (n : Name). NoneUnder n ys) names once.0, once.1)
once_named (z ∷ xs) x ys item names once = (none_named (name_of z) xs x ys item names once.0, once_named xs x ys item names once.1)

left_named : (xs : List Item) (x : Item) (ys : List Item) (item : Item) → IsLeft item → AllByRecursion IsLeft (xs ++ x ∷ ys) →
    AllByRecursion IsLeft (xs ++ item ∷ ys)
left_named [] x ys item is left = (is, left.1)
left_named (z ∷ xs) x ys item is left = (left.0, left_named xs x ys item is left.1)

module _ (list : List Item) (at : ℕ) (item : Item) (within : at < length list) (listed : AreListed list)
    (same : is_same (name_of (get_or list at item)) (name_of item) ≡ true) where
  abbrev front : List Item
  front = take at list

  abbrev rest : List Item
  rest = drop (at + 1) list

  abbrev was : Item
  was = get_or list at item

  names : name_of was ≡ name_of item
  names = same_name (name_of was) (name_of item) same

  whole : list ≡ front ++ was ∷ rest
  whole = split_at list at item within

  here : AreListed (front ++ was ∷ rest)
  here = subst AreListed whole listed

  pub placed : set list at item ≡ front ++ item ∷ rest
  placed = set_split list at item within ∙ ap (λ (n : ℕ). front ++ item ∷ drop n list) one
    where
      one : suc at ≡ at + 1
      one = omega arith

  pub list_placed : is_there (left_by item) ≡ true → AreListed (set list at item)
  list_placed stays = subst AreListed (sym placed) (record {
    once = once_named front was rest item names here.once;
    left = left_named front was rest item (stays_so item stays) here.left;
  })

  pub book_placed : replay (set list at item) empty ≡ after_item item (replay list empty)
  book_placed =
      let none : NoneUnder (name_of was) rest = none_behind front was rest here.once in
      ap (λ (l : List Item). replay l empty) placed
      ∙ in_place front rest was item empty same none (subst (λ (n : Name). NoneUnder n rest) names none)
      ∙ ap (λ (l : List Item). after_item item (replay l empty)) (sym whole)

-- ---- the last one goes to another place

none_turned : (name : Name) (xs : List Item) (l : Item) (mid : List Item) → NoneUnder name (xs ++ mid ++ l ∷ []) →
    NoneUnder name (xs ++ l ∷ mid)
none_turned name [] l [] none = none
none_turned name [] l (m ∷ mid) none = let deep = none_turned name [] l mid none.1 in (deep.0, (none.0, deep.1))
none_turned name (z ∷ xs) l mid none = (none.0, none_turned name xs l mid none.1)

append_nil : (xs : List Item) → xs ++ [] ≡ xs
append_nil [] = refl
append_nil (x ∷ xs) = ap (λ (l : List Item). x ∷ l) (append_nil xs)

once_front : (mid : List Item) (l : Item) → AreOnce (mid ++ l ∷ []) → NoneUnder (name_of l) mid × AreOnce mid
once_front [] l once = (tt, tt)
once_front (m ∷ mid) l once =
    let deep = once_front mid l once.1 in
    let none = none_turned (name_of m) [] l mid once.0 in
    ((other_way (name_of l) (name_of m) none.0, deep.0), (none.1, deep.1))

once_turned : (xs : List Item) (l : Item) (mid : List Item) → AreOnce (xs ++ mid ++ l ∷ []) → AreOnce (xs ++ l ∷ mid)
once_turned [] l mid once = once_front mid l once
once_turned (z ∷ xs) l mid once = (none_turned (name_of z) xs l mid once.0, once_turned xs l mid once.1)

left_turned : (xs : List Item) (l : Item) (mid : List Item) → AllByRecursion IsLeft (xs ++ mid ++ l ∷ []) →
    AllByRecursion IsLeft (xs ++ l ∷ mid)
left_turned [] l [] left = left
left_turned [] l (m ∷ mid) left = let deep = left_turned [] l mid left.1 in (deep.0, (left.0, deep.1))
left_turned (z ∷ xs) l mid left = (left.0, left_turned xs l mid left.1)

pub list_turned : (xs : List Item) (l : Item) (mid : List Item) → AreListed (xs ++ mid ++ l ∷ []) → AreListed (xs ++ l ∷ mid)
list_turned xs l mid listed = record { once = once_turned xs l mid listed.once; left = left_turned xs l mid listed.left }

pub book_turned : (xs : List Item) (l : Item) (mid : List Item) → AreListed (xs ++ mid ++ l ∷ []) →
    replay (xs ++ l ∷ mid) empty ≡ replay (xs ++ mid ++ l ∷ []) empty
book_turned xs l mid listed =
    inserted xs mid l empty (none_behind xs l mid (once_turned xs l mid listed.once))
    ∙ sym (replay_behind (xs ++ mid) (l ∷ []) empty)

-- ---- places

pub known_more : (m n : BTreeMap ℕ ℕ) (k v : ℕ) (items : List Item) → Updates nat_cmp m n k (Some v) → AreKnown m items → AreKnown n items
known_more m n k v items up known = All-weaker (λ (x : Item). IsSome (get nat_cmp m (key_in x)))
    (λ (x : Item). IsSome (get nat_cmp n (key_in x))) (λ x is. more (key_in x) is) items known
  where
    chosen : (b : Bool) (q : ℕ) → IsSome (get nat_cmp m q) → IsSome (cond b (Some v) (get nat_cmp m q))
    chosen true q is = refl
    chosen false q is = is

    more : (q : ℕ) → IsSome (get nat_cmp m q) → IsSome (get nat_cmp n q)
    more q is = subst IsSome (sym (up.0 q)) (chosen (is_at (nat_cmp k) q) q is)

pub known_at : (m n : BTreeMap ℕ ℕ) (k v : ℕ) → Updates nat_cmp m n k (Some v) → IsSome (get nat_cmp n k)
known_at m n k v up = subst IsSome (sym up.1) refl

-- one of the name has the key
pub known_placed : (list : List Item) (at : ℕ) (item : Item) (m : BTreeMap ℕ ℕ) → at < length list →
    is_same (name_of (get_or list at item)) (name_of item) ≡ true → AreKnown m list → AreKnown m (set list at item)
known_placed list at item m within same known =
    All-set (λ (x : Item). IsSome (get nat_cmp m (key_in x))) list at item
    (subst (λ (n : Name). IsSome (get nat_cmp m (key n))) (same_name (name_of (get_or list at item)) (name_of item) same)
    (known at item within)) known

pub known_push : (list : List Item) (item : Item) (m : BTreeMap ℕ ℕ) → IsSome (get nat_cmp m (key_in item)) → AreKnown m list →
    AreKnown m (list ++ item ∷ [])
known_push list item m here known = All-push (λ (x : Item). IsSome (get nat_cmp m (key_in x))) list item known here

-- ---- the last one takes the place of one that goes

cut_last : (x : Item) (xs : List Item) → (mid : List Item) × (l : Item) × (x ∷ xs ≡ mid ++ l ∷ [])
cut_last x [] = ([], x, refl)
cut_last x (y ∷ ys) = let deep = cut_last y ys in (x ∷ deep.0, deep.1, ap (λ (l : List Item). x ∷ l) deep.2)

-- what is left, and that it is one list in another order
abbrev Left : List Item → List Item → List Item → Type 0
Left front rest left = (AreListed (front ++ rest) → AreListed left)
    × (AreListed (front ++ rest) → replay left empty ≡ replay (front ++ rest) empty)

swapped_last : (list front : List Item) (x d : Item) (at : ℕ) → length front ≡ at → list ≡ front ++ x ∷ [] → swap_remove list at d ≡ front
swapped_last list front x d at size whole =
    let long : length list ≡ at + 1 = ap length whole ∙ length_push front x ∙ ap (λ (n : ℕ). n + 1) size in
    let last : Item = get_or list (length list - 1) d in
    let short : length list - 1 ≡ at = omega (arith, long) in
    ap (λ (n : ℕ). take n (set list at last)) short ∙ take-set list at last ∙ ap (take at) whole ∙ take_at front (x ∷ []) at size

swapped_front : (list front mid : List Item) (x l d : Item) (at : ℕ) → length front ≡ at → list ≡ front ++ x ∷ (mid ++ l ∷ []) →
    swap_remove list at d ≡ front ++ l ∷ mid
swapped_front list front mid x l d at size whole =
    let turned : list ≡ (front ++ x ∷ mid) ++ l ∷ [] = whole ∙ sym (append_assoc front (x ∷ mid) (l ∷ [])) in
    let n = length list - 1 in
    let long : length list ≡ length (front ++ x ∷ mid) + 1 = ap length turned ∙ length_push (front ++ x ∷ mid) l in
    let short : length (front ++ x ∷ mid) ≡ n = omega (arith, long) in
    let same : length (front ++ l ∷ mid) ≡ n = length-append front (l ∷ mid) ∙ sym (length-append front (x ∷ mid)) ∙ short in
    let last : get_or list n d ≡ l = ap (λ (m : List Item). get_or m n d) turned ∙ get_or_at (front ++ x ∷ mid) l [] d n short in
    ap (λ (y : Item). take n (set list at y)) last
    ∙ ap (λ (m : List Item). take n (set m at l)) whole
    ∙ ap (take n) (set_at front x (mid ++ l ∷ []) l at size ∙ sym (append_assoc front (l ∷ mid) (l ∷ [])))
    ∙ take_at (front ++ l ∷ mid) (l ∷ []) n same

left_by_rest : (list front rest : List Item) (x d : Item) (at : ℕ) → length front ≡ at → list ≡ front ++ x ∷ rest →
    Left front rest (swap_remove list at d)
left_by_rest list front [] x d at size whole =
    let is : swap_remove list at d ≡ front ++ [] = swapped_last list front x d at size whole ∙ sym (append_nil front) in
    ((λ listed. subst AreListed (sym is) listed), (λ listed. ap (λ (l : List Item). replay l empty) is))
left_by_rest list front (r ∷ rs) x d at size whole =
    let cut = cut_last r rs in
    let mid = cut.0 in
    let l = cut.1 in
    let apart : front ++ (r ∷ rs) ≡ front ++ mid ++ l ∷ [] = ap (λ (m : List Item). front ++ m) cut.2
    ∙ sym (append_assoc front mid (l ∷ [])) in
    let is : swap_remove list at d ≡ front ++ l ∷ mid =
    swapped_front list front mid x l d at size (whole ∙ ap (λ (m : List Item). front ++ x ∷ m) cut.2) in (
      (λ listed. subst AreListed (sym is) (list_turned front l mid (subst AreListed apart listed))),
      (λ listed. ap (λ (l : List Item). replay l empty) is ∙ book_turned front l mid (subst AreListed apart listed)
          ∙ ap (λ (l : List Item). replay l empty) (sym apart)),
    )

-- the same as a list in another order
pub moved_rest : (list front rest : List Item) (x d : Item) (at : ℕ) → length front ≡ at → list ≡ front ++ x ∷ rest →
    IsPermutation (front ++ rest) (swap_remove list at d)
moved_rest list front [] x d at size whole =
    subst (λ (l : List Item). IsPermutation (front ++ []) l) (sym (swapped_last list front x d at size whole ∙ sym (append_nil front)))
    (IsPermutation-refl (front ++ []))
moved_rest list front (r ∷ rs) x d at size whole =
    let cut = cut_last r rs in
    let mid = cut.0 in
    let l = cut.1 in
    let is : swap_remove list at d ≡ front ++ l ∷ mid =
    swapped_front list front mid x l d at size (whole ∙ ap (λ (m : List Item). front ++ x ∷ m) cut.2) in
    subst (λ (m : List Item). IsPermutation (front ++ (r ∷ rs)) m) (sym is)
    (subst (λ (m : List Item). IsPermutation (front ++ m) (front ++ l ∷ mid)) (sym cut.2)
    (IsPermutation-append_right front (mid ++ l ∷ []) (l ∷ mid) (IsPermutation-to_front mid l)))

pub moved_swapped : (list : List Item) (at : ℕ) (d : Item) → at < length list →
    IsPermutation (take at list ++ drop (at + 1) list) (swap_remove list at d)
moved_swapped list at d within = moved_rest list (take at list) (drop (at + 1) list) (get_or list at d) d at
    (length-take-le at list (omega (arith, within))) (split_at list at d within)

pub moved_placed : (list : List Item) (at : ℕ) (item : Item) → at < length list →
    IsPermutation (item ∷ (take at list ++ drop (at + 1) list)) (set list at item)
moved_placed list at item within =
    let one : suc at ≡ at + 1 = omega arith in
    let is : set list at item ≡ take at list ++ item ∷ drop (at + 1) list = set_split list at item within
    ∙ ap (λ (n : ℕ). take at list ++ item ∷ drop n list) one in
    subst (IsPermutation (item ∷ (take at list ++ drop (at + 1) list))) (sym is)
    (IsPermutation-sym (take at list ++ item ∷ drop (at + 1) list) (item ∷ (take at list ++ drop (at + 1) list))
    (IsPermutation-middle (take at list) item (drop (at + 1) list)))

pub moved_out : (list : List Item) (at : ℕ) (x : Item) → at < length list → x ≡ get_or list at x →
    IsPermutation list (x ∷ (take at list ++ drop (at + 1) list))
moved_out list at x within is =
    let whole : list ≡ take at list ++ x ∷ drop (at + 1) list = split_at list at x within
    ∙ ap (λ (y : Item). take at list ++ y ∷ drop (at + 1) list) (sym is) in
    subst (λ (l : List Item). IsPermutation l (x ∷ (take at list ++ drop (at + 1) list))) (sym whole)
    (IsPermutation-middle (take at list) x (drop (at + 1) list))

pub moved_pushed : (list : List Item) (item : Item) → IsPermutation (item ∷ list) (list ++ item ∷ [])
moved_pushed list item = IsPermutation-sym (list ++ item ∷ []) (item ∷ list) (IsPermutation-to_front list item)

-- nothing stands at a place behind the last one
pub without_none : (list : List Item) (at : ℕ) → length list ≤ at → take at list ++ drop (at + 1) list ≡ list
without_none list at behind =
    (λ i. take_all at list behind i ++ drop_all (at + 1) list (omega (arith, behind)) i) ∙ append_nil list

module _ (list : List Item) (at : ℕ) (gone d : Item) (within : at < length list) (listed : AreListed list)
    (same : is_same (name_of (get_or list at gone)) (name_of gone) ≡ true) where
  left_there : Left (take at list) (drop (at + 1) list) (swap_remove list at d)
  left_there = left_by_rest list (take at list) (drop (at + 1) list) (get_or list at gone) d at
      (length-take-le at list (omega (arith, within))) (split_at list at gone within)

  without : AreListed (take at list ++ drop (at + 1) list)
  without = list_removed list at gone within listed same

  pub list_swapped : AreListed (swap_remove list at d)
  list_swapped = left_there.0 without

  pub book_swapped : is_there (left_by gone) ≡ false → replay (swap_remove list at d) empty ≡ after_item gone (replay list empty)
  book_swapped leaves = left_there.1 without ∙ book_removed list at gone within listed same leaves

pub known_swapped : (list : List Item) (at : ℕ) (d : Item) (m : BTreeMap ℕ ℕ) → at < length list → AreKnown m list →
    AreKnown m (swap_remove list at d)
known_swapped list at d m within known =
    let P = λ (x : Item). IsSome (get nat_cmp m (key_in x)) in
    let n = length list - 1 in
    let last = get_or list n d in
    All-take P n (set list at last) (All-set P list at last (known n d (omega (arith, within))) known)
