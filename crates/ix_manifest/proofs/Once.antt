-- Staged items, each name once.
use Rattle.std.proofs.Common.{◌≡◌, ℕ, ◌+◌, ◌-◌, ◌<◌, List, [], ◌∷◌, ◌++◌, length, take, drop, get_or, Bool, true, false, refl, ap, subst}
use Rattle.std.proofs.Common.{sym, ◌∙◌, arith, append_assoc, length-drop}
use Rattle.std.specs.Prelude.{All}
use native.Mathlib.Numerals.{unary_clauses}
use Rattle.std.specs.List.{AllByRecursion, remove}
use Rattle.std.proofs.lemmas.List.{map-append, take_more, take_at, drop_at, drop_more, get_or-drop, length-take-le}
use Rattle.std.proofs.Math.Seq.{take-add}
use Rattle.std.proofs.lemmas.List.Elements.{All-from_recursion, recursion_from_All, All-append, All-take, All-drop}
use Rattle.ix_items.specs.Spelling.{HasSpelling}
use Rattle.ix_items.specs.declared.items.Item.{Item}
use Rattle.ix_manifest.specs.Book.{Name, NamedItems, NoneUnder, name_of, is_same, replay}
use Rattle.ix_manifest.specs.Slots.{without, in_slot, items_of, AreOnce}
use Rattle.ix_manifest.specs.declared.staged_item.StagedItem.{StagedItem}
use Rattle.ix_manifest.proofs.Applying.{replay_behind}
use Rattle.ix_manifest.proofs.Renaming.{same_name, replaced, split_at, by_slot, by_item}

other_way : (a b : Name) → is_same a b ≡ false → is_same b a ≡ false
other_way a b is = go (is_same b a) refl
  where
    go : (test : Bool) → is_same b a ≡ test → is_same b a ≡ false
    go false told = told
    go true told =
        let same : b ≡ a = same_name b a told in
        let turned : is_same a b ≡ is_same b a = λ i. is_same (sym same i) (same i) in
        let none : true ≡ false = sym told ∙ sym turned ∙ is in
        absurd cc

-- each stands under another name than this one
abbrev pub AreOther : Name → List Item → Type 0
AreOther name items = AllByRecursion (λ x. is_same (name_of x) name ≡ false) items

none_push : (name : Name) (items : List Item) (item : Item) → NoneUnder name items → is_same (name_of item) name ≡ false →
    NoneUnder name (items ++ item ∷ [])
none_push name [] item none is = (is, tt)
none_push name (x ∷ items) item none is = (none.0, none_push name items item none.1 is)

pub once_push : (items : List Item) (item : Item) → AreOnce items → AreOther (name_of item) items → AreOnce (items ++ item ∷ [])
once_push [] item once other = (tt, tt)
once_push (x ∷ items) item once other = (
  none_push (name_of x) items item once.0 (other_way (name_of x) (name_of item) other.0),
  once_push items item once.1 other.1,
)

none_without : (name : Name) (xs : List Item) (x : Item) (ys : List Item) → NoneUnder name (xs ++ x ∷ ys) → NoneUnder name (xs ++ ys)
none_without name [] x ys none = none.1
none_without name (z ∷ xs) x ys none = (none.0, none_without name xs x ys none.1)

once_without : (xs : List Item) (x : Item) (ys : List Item) → AreOnce (xs ++ x ∷ ys) → AreOnce (xs ++ ys)
once_without [] x ys once = once.1
once_without (z ∷ xs) x ys once = (none_without (name_of z) xs x ys once.0, once_without xs x ys once.1)

none_at : (name : Name) (xs : List Item) (x : Item) (ys : List Item) → NoneUnder name (xs ++ x ∷ ys) → is_same (name_of x) name ≡ false
none_at name [] x ys none = none.0
none_at name (z ∷ xs) x ys none = none_at name xs x ys none.1

others_of : (xs : List Item) (x : Item) (ys : List Item) → AreOnce (xs ++ x ∷ ys) → AreOther (name_of x) (xs ++ ys)
others_of [] x ys once = once.0
others_of (z ∷ xs) x ys once = (other_way (name_of x) (name_of z) (none_at (name_of z) xs x ys once.0), others_of xs x ys once.1)

-- an item goes for a later one of its name
pub once_moved : (xs : List Item) (x : Item) (ys : List Item) (item : Item) → is_same (name_of x) (name_of item) ≡ true →
    AreOnce (xs ++ x ∷ ys) → AreOnce (xs ++ ys ++ item ∷ [])
once_moved xs x ys item same once =
    once_push (xs ++ ys) item (once_without xs x ys once)
    (subst (λ (n : Name). AreOther n (xs ++ ys)) (same_name (name_of x) (name_of item) same) (others_of xs x ys once))

-- without an item that stands before one of its name the rest leads to the same book
pub replay_without : (xs : List Item) (x : Item) (ys : List Item) (item : Item) (zs : List Item) (book : NamedItems) →
    is_same (name_of x) (name_of item) ≡ true → replay (xs ++ ys ++ item ∷ zs) book ≡ replay (xs ++ x ∷ ys ++ item ∷ zs) book
replay_without xs x ys item zs book same =
    ap (λ (l : List Item). replay l book) (sym (append_assoc (xs ++ ys) (item ∷ []) zs)) ∙ replay_behind (xs ++ ys ++ item ∷ []) zs book
    ∙ ap (replay zs) (replaced xs ys x item book same ∙ sym (replay_behind (xs ++ x ∷ ys) (item ∷ []) book))
    ∙ sym (replay_behind (xs ++ x ∷ ys ++ item ∷ []) zs book)
    ∙ ap (λ (l : List Item). replay l book) (append_assoc (xs ++ x ∷ ys) (item ∷ []) zs)

-- what a removal leaves
pub removed_is : (slots : List StagedItem) (at : ℕ) → remove slots at ≡ without at slots
removed_is slots at = simp unary_clauses refl

-- the slots round two places
module _ (slots : List StagedItem) (at k : ℕ) (d : StagedItem) (before : at < k) (within : k < length slots) where
  abbrev front : List StagedItem
  front = take at slots

  abbrev rest : List StagedItem
  rest = drop (at + 1) slots

  abbrev middle : List StagedItem
  middle = take (k - (at + 1)) rest

  abbrev last : List StagedItem
  last = drop (k - (at + 1) + 1) rest

  abbrev first : StagedItem
  first = get_or slots at d

  abbrev second : StagedItem
  second = get_or slots k d

  whole_is : slots ≡ front ++ first ∷ rest
  whole_is = split_at slots at d (omega (arith, before, within))

  rest_is : rest ≡ middle ++ second ∷ last
  rest_is =
      let j = k - (at + 1) in
      let size = length-drop (at + 1) slots in
      let read : get_or rest j d ≡ second = get_or-drop (at + 1) slots j d ∙ ap (λ (n : ℕ). get_or slots n d) (omega (arith, before)) in
      split_at rest j d (omega (arith, size, before, within)) ∙ ap (λ (s : StagedItem). middle ++ s ∷ last) read

  size_front : length front ≡ at
  size_front = length-take-le at slots (omega (arith, before, within))

  place : k ≡ at + (1 + (k - (at + 1)))
  place = omega (arith, before)

  take_whole : take k slots ≡ front ++ first ∷ middle
  take_whole =
      ap (λ (n : ℕ). take n slots) place ∙ take-add at (1 + (k - (at + 1))) slots
      ∙ ap (λ (l : List StagedItem). front ++ take (1 + (k - (at + 1))) l) (drop_more slots at d (omega (arith, before, within)))
      ∙ ap (λ (l : List StagedItem). front ++ l) (take-add 1 (k - (at + 1)) (first ∷ rest))

  take_left : take k (without at slots) ≡ front ++ middle ++ second ∷ []
  take_left =
      let j = k - (at + 1) in
      let read : get_or rest j d ≡ second = get_or-drop (at + 1) slots j d ∙ ap (λ (n : ℕ). get_or slots n d) (omega (arith, before)) in
      let size = length-drop (at + 1) slots in
      let more : take (1 + j) rest ≡ middle ++ second ∷ [] = ap (λ (n : ℕ). take n rest) (omega arith)
      ∙ take_more rest j d (omega (arith, size, before, within)) ∙ ap (λ (s : StagedItem). middle ++ s ∷ []) read in
      ap (λ (n : ℕ). take n (front ++ rest)) place ∙ take-add at (1 + j) (front ++ rest)
      ∙ (λ i. take_at front rest at size_front i ++ take (1 + j) (drop_at front rest at size_front i))
      ∙ ap (λ (l : List StagedItem). front ++ l) more ∙ sym (append_assoc front middle (second ∷ []))

  items_whole : items_of slots ≡ items_of front ++ first.item ∷ items_of middle ++ second.item ∷ items_of last
  items_whole =
      ap items_of (whole_is ∙ ap (λ (l : List StagedItem). front ++ first ∷ l) rest_is)
      ∙ map-append in_slot front (first ∷ (middle ++ second ∷ last))
      ∙ ap (λ (l : List Item). items_of front ++ first.item ∷ l) (map-append in_slot middle (second ∷ last))
      ∙ sym (append_assoc (items_of front) (first.item ∷ items_of middle) (second.item ∷ items_of last))

  items_left : items_of (without at slots) ≡ items_of front ++ items_of middle ++ second.item ∷ items_of last
  items_left =
      ap (λ (l : List StagedItem). items_of (front ++ l)) rest_is ∙ map-append in_slot front (middle ++ second ∷ last)
      ∙ ap (λ (l : List Item). items_of front ++ l) (map-append in_slot middle (second ∷ last))
      ∙ sym (append_assoc (items_of front) (items_of middle) (second.item ∷ items_of last))

  module _ (same : is_same (name_of first.item) (name_of second.item) ≡ true) where
    pub replay_left : (book : NamedItems) → replay (items_of (without at slots)) book ≡ replay (items_of slots) book
    replay_left book = ap (λ (l : List Item). replay l book) items_left
        ∙ replay_without (items_of front) first.item (items_of middle) second.item (items_of last) book same
        ∙ ap (λ (l : List Item). replay l book) (sym items_whole)

    pub once_left : AreOnce (items_of (take k slots)) → AreOnce (items_of (take k (without at slots)))
    once_left once =
        let were : AreOnce (items_of front ++ first.item ∷ items_of middle) =
        subst AreOnce (ap items_of take_whole ∙ map-append in_slot front (first ∷ middle)) once in
        subst AreOnce (sym (ap items_of take_left ∙ map-append in_slot (front ++ middle) (second ∷ [])
        ∙ ap (λ (l : List Item). l ++ second.item ∷ []) (map-append in_slot front middle)))
        (once_moved (items_of front) first.item (items_of middle) second.item same were)

others_items : (name : Name) (slots : List StagedItem) → AllByRecursion (λ (s : StagedItem). is_same (name_of s.item) name ≡ false) slots →
    AreOther name (items_of slots)
others_items name [] all = tt
others_items name (s ∷ slots) all = (all.0, others_items name slots all.1)

-- one item more under a name of its own
pub once_more : (slots : List StagedItem) (k : ℕ) (d : StagedItem) → k < length slots →
    All (λ (s : StagedItem). is_same (name_of s.item) (name_of (get_or slots k d).item) ≡ false) (take k slots) →
    AreOnce (items_of (take k slots)) → AreOnce (items_of (take (k + 1) slots))
once_more slots k d within all once =
    let x = get_or slots k d in
    let other = others_items (name_of x.item) (take k slots)
    (recursion_from_All (λ (s : StagedItem). is_same (name_of s.item) (name_of x.item) ≡ false) (take k slots) all) in
    subst AreOnce (sym (ap items_of (take_more slots k d within) ∙ map-append in_slot (take k slots) (x ∷ [])))
    (once_push (items_of (take k slots)) x.item once other)

-- the same, whatever slot is read past the end
pub once_next : (slots : List StagedItem) (k : ℕ) → k < length slots →
    ((d : StagedItem) → All (λ (s : StagedItem). is_same (name_of s.item) (name_of (get_or slots k d).item) ≡ false) (take k slots)) →
    AreOnce (items_of (take k slots)) → AreOnce (items_of (take (k + 1) slots))
once_next slots k within all once = let d = some_slot slots within in once_more slots k d within (all d) once
  where
    some_slot : (l : List StagedItem) → k < length l → StagedItem
    some_slot [] within = absurd (omega (arith, within))
    some_slot (s ∷ l) within = s

pub proper_without : (slots : List StagedItem) (at : ℕ) → AllByRecursion HasSpelling (items_of slots) →
    AllByRecursion HasSpelling (items_of (without at slots))
proper_without slots at proper =
    let P = λ (s : StagedItem). HasSpelling s.item in
    let all : All P slots = All-from_recursion P slots (by_slot slots proper) in
    by_item (without at slots) (recursion_from_All P (without at slots)
    (All-append P (take at slots) (drop (at + 1) slots) (All-take P at slots all) (All-drop P (at + 1) slots all)))
