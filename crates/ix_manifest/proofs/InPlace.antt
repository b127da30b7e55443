-- A state in memory is written as items, one a name, in any order: what an item changes there.
use Rattle.std.proofs.Common.{◌≡◌, List, [], ◌∷◌, ◌++◌, Bool, true, false, Option, None, if◌then◌else◌, refl, ap, sym, ◌∙◌}
use Rattle.ix_items.specs.declared.items.Item.{Item}
use Rattle.ix_manifest.specs.Book.{Name, NamedItems, NoneUnder, empty, name_of, is_same, left_by, after_item, replay}
use Rattle.ix_manifest.proofs.Applying.{replay_behind}
use Rattle.ix_manifest.proofs.Renaming.{same_name, replay_at, chosen_other}

chosen : (test told : Bool) (x y : Option Item) → test ≡ told → (if test then x else y) ≡ (if told then x else y)
chosen test told x y is = ap (λ (t : Bool). if t then x else y) is

pub none_under : (items : List Item) (name : Name) (book : NamedItems) → NoneUnder name items → replay items book name ≡ book name
none_under [] name book none = refl
none_under (item ∷ items) name book none = none_under items name (after_item item book) none.1
    ∙ chosen (is_same (name_of item) name) false (left_by item) (book name) none.0

-- an item goes past those under other names
pub passes : (item : Item) (items : List Item) (book : NamedItems) → NoneUnder (name_of item) items →
    replay items (after_item item book) ≡ after_item item (replay items book)
passes item items book none = λ i name. at name (is_same (name_of item) name) refl i
  where
    at : (name : Name) (test : Bool) → is_same (name_of item) name ≡ test →
        replay items (after_item item book) name ≡ after_item item (replay items book) name
    at name true is =
        let same : name_of item ≡ name = same_name (name_of item) name is in
        ap (λ (n : Name). replay items (after_item item book) n) (sym same)
        ∙ none_under items (name_of item) (after_item item book) none
        ∙ ap (λ (n : Name). after_item item book n) same
        ∙ chosen (is_same (name_of item) name) true (left_by item) (book name) is
        ∙ sym (chosen (is_same (name_of item) name) true (left_by item) (replay items book name) is)
    at name false is =
        replay_at items (after_item item book) book name (chosen_other (is_same (name_of item) name) (left_by item) (book name) is)
        ∙ sym (chosen_other (is_same (name_of item) name) (left_by item) (replay items book name) is)

-- a later item replaces one under its name
over : (x item : Item) (book : NamedItems) → is_same (name_of x) (name_of item) ≡ true →
    after_item item (after_item x book) ≡ after_item item book
over x item book same = λ i name. at name (is_same (name_of item) name) refl i
  where
    at : (name : Name) (test : Bool) → is_same (name_of item) name ≡ test →
        after_item item (after_item x book) name ≡ after_item item book name
    at name true is = chosen (is_same (name_of item) name) true (left_by item) (after_item x book name) is
        ∙ sym (chosen (is_same (name_of item) name) true (left_by item) (book name) is)
    at name false is =
        chosen (is_same (name_of item) name) false (left_by item) (after_item x book name) is
        ∙ chosen_other (is_same (name_of x) name) (left_by x) (book name)
        (ap (λ (n : Name). is_same n name) (same_name (name_of x) (name_of item) same) ∙ is)
        ∙ sym (chosen (is_same (name_of item) name) false (left_by item) (book name) is)

-- written anew in its place
pub in_place : (xs ys : List Item) (x item : Item) (book : NamedItems) → is_same (name_of x) (name_of item) ≡ true →
    NoneUnder (name_of x) ys → NoneUnder (name_of item) ys → replay (xs ++ item ∷ ys) book ≡ after_item item (replay (xs ++ x ∷ ys) book)
in_place xs ys x item book same none_x none =
    replay_behind xs (item ∷ ys) book ∙ passes item ys (replay xs book) none
    ∙ sym (over x item (replay ys (replay xs book)) same)
    ∙ ap (after_item item) (sym (passes x ys (replay xs book) none_x) ∙ sym (replay_behind xs (x ∷ ys) book))

-- put at any place, where none stood
pub inserted : (xs ys : List Item) (item : Item) (book : NamedItems) → NoneUnder (name_of item) ys →
    replay (xs ++ item ∷ ys) book ≡ after_item item (replay (xs ++ ys) book)
inserted xs ys item book none = replay_behind xs (item ∷ ys) book ∙ passes item ys (replay xs book) none
    ∙ ap (after_item item) (sym (replay_behind xs ys book))

-- taken out, by an item that leaves nothing
pub taken_out : (xs ys : List Item) (x gone : Item) → is_same (name_of x) (name_of gone) ≡ true → left_by gone ≡ None →
    NoneUnder (name_of x) ys → NoneUnder (name_of gone) (xs ++ ys)
    → replay (xs ++ ys) empty ≡ after_item gone (replay (xs ++ x ∷ ys) empty)
taken_out xs ys x gone same leaves none_x none =
    (λ i name. at name (is_same (name_of gone) name) refl i)
    ∙ sym (over x gone (replay (xs ++ ys) empty) same)
    ∙ ap (after_item gone) (sym (inserted xs ys x empty none_x))
  where
    at : (name : Name) (test : Bool) → is_same (name_of gone) name ≡ test →
        replay (xs ++ ys) empty name ≡ after_item gone (replay (xs ++ ys) empty) name
    at name true is =
        ap (λ (n : Name). replay (xs ++ ys) empty n) (sym (same_name (name_of gone) name is))
        ∙ none_under (xs ++ ys) (name_of gone) empty none
        ∙ sym (chosen (is_same (name_of gone) name) true (left_by gone) (replay (xs ++ ys) empty name) is ∙ leaves)
    at name false is = sym (chosen (is_same (name_of gone) name) false (left_by gone) (replay (xs ++ ys) empty name) is)
