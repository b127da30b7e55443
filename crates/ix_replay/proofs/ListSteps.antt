-- A list of what stands, one item a name: what an item changes there.
use Rattle.std.proofs.Common.{◌≡◌, ℕ, ◌+◌, ◌<◌, length, get_or, take, drop, List, [], ◌∷◌, ◌++◌, Bool, true, false, Option, Some, None}
use Rattle.std.proofs.Common.{if◌then◌else◌, refl, ap, subst, sym, ◌∙◌}
use Rattle.std.specs.Prelude.{All}
use Rattle.std.specs.List.{AllByRecursion}
use Rattle.std.proofs.lemmas.List.{drop_more, take-append-drop}
use Rattle.std.proofs.lemmas.List.Elements.{recursion_from_All}
use Rattle.ix_items.specs.declared.items.Item.{Item}
use Rattle.ix_items.specs.declared.items.Item.TheVariants as items
use Rattle.ix_manifest.specs.Book.{Name, NamedItems, NoneUnder, empty, name_of, is_same, is_there, left_by, after_item, replay}
use Rattle.ix_manifest.specs.Slots.{AreOnce}
use Rattle.ix_manifest.proofs.Applying.{replay_behind}
use Rattle.ix_manifest.proofs.InPlace.{none_under, taken_out}
use Rattle.ix_manifest.proofs.Once.{AreOther, once_push, once_moved}
use Rattle.ix_manifest.proofs.Renaming.{same_name, chosen_other, replaced}
use Rattle.ix_replay.specs.Lists.{IsLeft, AreListed}

-- ---- what an item leaves

pub stays_so : (item : Item) → is_there (left_by item) ≡ true → left_by item ≡ Some item
stays_so (items.Settings kept) is = refl
stays_so (items.Run run) is = refl
stays_so (items.Moments last tick) is = refl
stays_so (items.Channel name meta carry) is = refl
stays_so (items.Ended name) is = absurd cc
stays_so (items.Bucket index bucket) is = refl
stays_so (items.Gone index id) is = absurd cc
stays_so (items.Ledger entry) is = refl
stays_so (items.Counts settled nulled dropped placed) is = refl
stays_so (items.Spot spot) is = refl
stays_so (items.NextFile number) is = refl
stays_so (items.Removals files) is = refl
stays_so (items.NextId index id) is = refl

none_there : (o : Option Item) → is_there o ≡ false → o ≡ None
none_there None is = refl
none_there (Some item) is = absurd cc

-- ---- names

pub other_way : (a b : Name) → is_same a b ≡ false → is_same b a ≡ false
other_way a b is = go (is_same b a) refl
  where
    go : (test : Bool) → is_same b a ≡ test → is_same b a ≡ false
    go false told = told
    go true told =
        let same : b ≡ a = same_name b a told in
        let turned : is_same a b ≡ is_same b a = λ i. is_same (sym same i) (same i) in
        let none : true ≡ false = sym told ∙ sym turned ∙ is in
        absurd cc

pub none_behind : (xs : List Item) (x : Item) (ys : List Item) → AreOnce (xs ++ x ∷ ys) → NoneUnder (name_of x) ys
none_behind [] x ys once = once.0
none_behind (z ∷ xs) x ys once = none_behind xs x ys once.1

none_without : (name : Name) (xs : List Item) (x : Item) (ys : List Item) → NoneUnder name (xs ++ x ∷ ys) → NoneUnder name (xs ++ ys)
none_without name [] x ys none = none.1
none_without name (z ∷ xs) x ys none = (none.0, none_without name xs x ys none.1)

once_without : (xs : List Item) (x : Item) (ys : List Item) → AreOnce (xs ++ x ∷ ys) → AreOnce (xs ++ ys)
once_without [] x ys once = once.1
once_without (z ∷ xs) x ys once = (none_without (name_of z) xs x ys once.0, once_without xs x ys once.1)

none_at : (name : Name) (xs : List Item) (x : Item) (ys : List Item) → NoneUnder name (xs ++ x ∷ ys) → is_same (name_of x) name ≡ false
none_at name [] x ys none = none.0
none_at name (z ∷ xs) x ys none = none_at name xs x ys none.1

pub others_of : (xs : List Item) (x : Item) (ys : List Item) → AreOnce (xs ++ x ∷ ys) → AreOther (name_of x) (xs ++ ys)
others_of [] x ys once = once.0
others_of (z ∷ xs) x ys once = (other_way (name_of x) (name_of z) (none_at (name_of z) xs x ys once.0), others_of xs x ys once.1)

-- ---- what stays

left_without : (xs : List Item) (x : Item) (ys : List Item) → AllByRecursion IsLeft (xs ++ x ∷ ys) → AllByRecursion IsLeft (xs ++ ys)
left_without [] x ys left = left.1
left_without (z ∷ xs) x ys left = (left.0, left_without xs x ys left.1)

left_push : (xs : List Item) (item : Item) → IsLeft item → AllByRecursion IsLeft xs → AllByRecursion IsLeft (xs ++ item ∷ [])
left_push [] item is left = (is, tt)
left_push (z ∷ xs) item is left = (left.0, left_push xs item is left.1)

pub left_at : (xs : List Item) (x : Item) (ys : List Item) → AllByRecursion IsLeft (xs ++ x ∷ ys) → IsLeft x
left_at [] x ys left = left.0
left_at (z ∷ xs) x ys left = left_at xs x ys left.1

-- ---- a further item

pub list_without : (xs : List Item) (x : Item) (ys : List Item) → AreListed (xs ++ x ∷ ys) → AreListed (xs ++ ys)
list_without xs x ys listed = record { once = once_without xs x ys listed.once; left = left_without xs x ys listed.left }

module _ (xs ys : List Item) (x item : Item) (listed : AreListed (xs ++ x ∷ ys)) (same : is_same (name_of x) (name_of item) ≡ true) where
  names : name_of x ≡ name_of item
  names = same_name (name_of x) (name_of item) same

  pub book_without : is_there (left_by item) ≡ false → replay (xs ++ ys) empty ≡ after_item item (replay (xs ++ x ∷ ys) empty)
  book_without gone = taken_out xs ys x item same (none_there (left_by item) gone) (none_behind xs x ys listed.once)
      (subst (λ (n : Name). NoneUnder n (xs ++ ys)) names (others_of xs x ys listed.once))

pub list_push : (items : List Item) (item : Item) → AreListed items → AreOther (name_of item) items → is_there (left_by item) ≡ true →
    AreListed (items ++ item ∷ [])
list_push items item listed other stays = record {
  once = once_push items item listed.once other;
  left = left_push items item (stays_so item stays) listed.left;
}

pub book_push : (items : List Item) (item : Item) → replay (items ++ item ∷ []) empty ≡ after_item item (replay items empty)
book_push items item = replay_behind items (item ∷ []) empty

-- an item that leaves nothing changes nothing where none of its name stands
pub book_same : (items : List Item) (item : Item) → AreOther (name_of item) items → is_there (left_by item) ≡ false →
    replay items empty ≡ after_item item (replay items empty)
book_same items item other gone = λ i name. at name (is_same (name_of item) name) refl i
  where
    chosen : (test told : Bool) (x y : Option Item) → test ≡ told → (if test then x else y) ≡ (if told then x else y)
    chosen test told x y is = ap (λ (t : Bool). if t then x else y) is

    at : (name : Name) (test : Bool) → is_same (name_of item) name ≡ test →
        replay items empty name ≡ after_item item (replay items empty) name
    at name true is =
        ap (λ (n : Name). replay items empty n) (sym (same_name (name_of item) name is)) ∙ none_under items (name_of item) empty other
        ∙ sym (chosen (is_same (name_of item) name) true (left_by item) (replay items empty name) is ∙ none_there (left_by item) gone)
    at name false is = sym (chosen_other (is_same (name_of item) name) (left_by item) (replay items empty name) is)

-- ---- the same by places

pub split_at : (list : List Item) (at : ℕ) (d : Item) → at < length list → list ≡ take at list ++ get_or list at d ∷ drop (at + 1) list
split_at list at d within = sym (take-append-drop at list) ∙ ap (λ (l : List Item). take at list ++ l) (drop_more list at d within)

module _ (list : List Item) (at : ℕ) (item : Item) (within : at < length list) (listed : AreListed list)
    (same : is_same (name_of (get_or list at item)) (name_of item) ≡ true) where
  abbrev front : List Item
  front = take at list

  abbrev rest : List Item
  rest = drop (at + 1) list

  whole : list ≡ front ++ get_or list at item ∷ rest
  whole = split_at list at item within

  here : AreListed (front ++ get_or list at item ∷ rest)
  here = subst AreListed whole listed

  pub list_moved : is_there (left_by item) ≡ true → AreListed (front ++ rest ++ item ∷ [])
  list_moved stays = record {
    once = once_moved front (get_or list at item) rest item same here.once;
    left = left_push (front ++ rest) item (stays_so item stays) (left_without front (get_or list at item) rest here.left);
  }

  pub book_moved : replay (front ++ rest ++ item ∷ []) empty ≡ after_item item (replay list empty)
  book_moved = replaced front rest (get_or list at item) item empty same
      ∙ ap (λ (l : List Item). after_item item (replay l empty)) (sym whole)

  pub list_removed : AreListed (front ++ rest)
  list_removed = list_without front (get_or list at item) rest here

  pub book_removed : is_there (left_by item) ≡ false → replay (front ++ rest) empty ≡ after_item item (replay list empty)
  book_removed gone = book_without front rest (get_or list at item) item here same gone
      ∙ ap (λ (l : List Item). after_item item (replay l empty)) (sym whole)

pub others_from_all : (list : List Item) (item : Item) → All (λ (x : Item). is_same (name_of x) (name_of item) ≡ false) list →
    AreOther (name_of item) list
others_from_all list item all = recursion_from_All (λ (x : Item). is_same (name_of x) (name_of item) ≡ false) list all

-- ---- what stands under a name

stands_in : (xs ys : List Item) (x : Item) (name : Name) → AreListed (xs ++ x ∷ ys) → is_same (name_of x) name ≡ true →
    replay (xs ++ x ∷ ys) empty name ≡ Some x
stands_in xs ys x name listed same =
    ap (λ (b : NamedItems). b name) (replay_behind xs (x ∷ ys) empty)
    ∙ none_under ys name (after_item x (replay xs empty))
    (subst (λ (n : Name). NoneUnder n ys) (same_name (name_of x) name same) (none_behind xs x ys listed.once))
    ∙ ap (λ (t : Bool). if t then left_by x else replay xs empty name) same
    ∙ left_at xs x ys listed.left

pub stands_at : (list : List Item) (at : ℕ) (x : Item) (name : Name) → AreListed list → at < length list → x ≡ get_or list at x →
    is_same (name_of x) name ≡ true → replay list empty name ≡ Some x
stands_at list at x name listed within is same =
    let whole : list ≡ take at list ++ x ∷ drop (at + 1) list = split_at list at x within
    ∙ ap (λ (y : Item). take at list ++ y ∷ drop (at + 1) list) (sym is) in
    ap (λ (l : List Item). replay l empty name) whole ∙ stands_in (take at list) (drop (at + 1) list) x name (subst AreListed whole listed)
    same

pub none_stands : (list : List Item) (name : Name) → All (λ (x : Item). is_same (name_of x) name ≡ false) list →
    replay list empty name ≡ None
none_stands list name all = none_under list name empty (recursion_from_All (λ (x : Item). is_same (name_of x) name ≡ false) list all)
