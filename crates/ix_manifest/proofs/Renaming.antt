-- A later item under a name replaces the earlier one.
use Rattle.std.proofs.Common.{◌≡◌, ℕ, ◌+◌, ◌<◌, List, [], ◌∷◌, ◌++◌, length, take, drop, get_or, Bool, true, false, Option, if◌then◌else◌}
use Rattle.std.proofs.Common.{refl, ap, sym, ◌∙◌, arith, length-append}
use Rattle.std.proofs.lemmas.List.{drop_more, take-append-drop}
use Rattle.std.proofs.lemmas.List.Concat.{flat_map-append}
use Rattle.std.proofs.lemmas.Bool.Decides.{nat_tests}
use Rattle.std.proofs.lemmas.Slice.Eq.{bytes_eq-Decides}
use Rattle.std.specs.Prelude.{bytes_eq, ◌==◌, ◌&&◌}
use Rattle.std.specs.List.{AllByRecursion}
use Rattle.ix_items.specs.Spelling.{HasSpelling}
use Rattle.ix_items.specs.declared.items.Item.{Item}
use Rattle.ix_manifest.specs.Book.{Name, NamedItems, name_of, is_same, left_by, after_item, replay}
use Rattle.ix_manifest.specs.Slots.{bytes_of, without, items_of}
use Rattle.ix_manifest.specs.declared.staged_item.StagedItem.{StagedItem}
use Rattle.ix_manifest.proofs.Applying.{replay_behind}

both_true : (a b : Bool) → (a && b) ≡ true → (a ≡ true) × (b ≡ true)
both_true true b is = (refl, is)
both_true false b is = absurd cc

pub same_name : (a b : Name) → is_same a b ≡ true → a ≡ b
same_name a b is =
    let first = both_true (a.kind == b.kind) _ is in
    let second = both_true (bytes_eq a.text b.text) _ first.1 in
    let f0 = first.0 in
    let s1 = second.1 in
    let kinds : a.kind ≡ b.kind = grind (arith, nat_tests) in
    let numbers : a.number ≡ b.number = grind (arith, nat_tests) in
    let texts : a.text ≡ b.text = (bytes_eq-Decides a.text b.text).0 second.0 in
    λ i. record { kind = kinds i; text = texts i; number = numbers i }

-- what stands under a name after some items is by what stood there before, and these
pub replay_at : (items : List Item) (a b : NamedItems) (name : Name) → a name ≡ b name → replay items a name ≡ replay items b name
replay_at [] a b name is = is
replay_at (item ∷ items) a b name is = replay_at items (after_item item a) (after_item item b) name
    (ap (λ (o : Option Item). if is_same (name_of item) name then left_by item else o) is)

pub chosen_other : (test : Bool) (x y : Option Item) → test ≡ false → (if test then x else y) ≡ y
chosen_other true x y is = absurd cc
chosen_other false x y is = refl

-- an item in between, under the name of the last one, counts for nothing
pub replaced : (xs ys : List Item) (x item : Item) (book : NamedItems) → is_same (name_of x) (name_of item) ≡ true →
    replay (xs ++ ys ++ item ∷ []) book ≡ after_item item (replay (xs ++ x ∷ ys) book)
replaced xs ys x item book same = λ i name. at name i
  where
    over : (name : Name) → is_same (name_of item) name ≡ false → replay (xs ++ x ∷ ys) book name ≡ replay (xs ++ ys) book name
    over name other =
        let x_other : is_same (name_of x) name ≡ false = ap (λ (n : Name). is_same n name) (same_name (name_of x) (name_of item) same)
        ∙ other in
        ap (λ (b : NamedItems). b name) (replay_behind xs (x ∷ ys) book)
        ∙ replay_at ys (after_item x (replay xs book)) (replay xs book) name
        (chosen_other (is_same (name_of x) name) (left_by x) (replay xs book name) x_other)
        ∙ sym (ap (λ (b : NamedItems). b name) (replay_behind xs ys book))

    choose : (name : Name) (test : Bool) → is_same (name_of item) name ≡ test
        → (if test then left_by item else replay (xs ++ ys) book name) ≡ (if test then left_by item else replay (xs ++ x ∷ ys) book name)
    choose name true is = refl
    choose name false is = sym (over name is)

    at : (name : Name) → replay (xs ++ ys ++ item ∷ []) book name ≡ after_item item (replay (xs ++ x ∷ ys) book) name
    at name = ap (λ (b : NamedItems). b name) (replay_behind (xs ++ ys) (item ∷ []) book) ∙ choose name (is_same (name_of item) name) refl

pub split_at : (slots : List StagedItem) (at : ℕ) (d : StagedItem) → at < length slots → slots ≡ take at slots ++ get_or slots at d
    ∷ drop (at + 1) slots
split_at slots at d within = sym (take-append-drop at slots)
    ∙ ap (λ (l : List StagedItem). take at slots ++ l) (drop_more slots at d within)

pub size_without : (slots : List StagedItem) (at : ℕ) (slot : StagedItem) → at < length slots → slot ≡ get_or slots at slot →
    length (bytes_of (without at slots)) + length slot.bytes ≡ length (bytes_of slots)
size_without slots at slot within is =
    let front = take at slots in
    let rest = drop (at + 1) slots in
    let whole : bytes_of slots ≡ bytes_of front ++ (slot.bytes ++ bytes_of rest) =
    ap bytes_of (split_at slots at slot within ∙ ap (λ (s : StagedItem). front ++ s ∷ rest) (sym is))
    ∙ flat_map-append (λ (s : StagedItem). s.bytes) front (slot ∷ rest) in
    let apart : bytes_of (front ++ rest) ≡ bytes_of front ++ bytes_of rest = flat_map-append (λ (s : StagedItem). s.bytes) front rest in
    omega (
      arith,
      ap length whole,
      ap length apart,
      length-append (bytes_of front) (slot.bytes ++ bytes_of rest),
      length-append slot.bytes (bytes_of rest),
      length-append (bytes_of front) (bytes_of rest),
    )

-- ---- the items have spellings

pub by_slot : (slots : List StagedItem) → AllByRecursion HasSpelling (items_of slots) →
    AllByRecursion (λ (s : StagedItem). HasSpelling s.item) slots
by_slot [] proper = tt
by_slot (slot ∷ slots) proper = (proper.0, by_slot slots proper.1)

pub by_item : (slots : List StagedItem) → AllByRecursion (λ (s : StagedItem). HasSpelling s.item) slots →
    AllByRecursion HasSpelling (items_of slots)
by_item [] proper = tt
by_item (slot ∷ slots) proper = (proper.0, by_item slots proper.1)
