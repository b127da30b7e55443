-- The items of a state, kind by kind.
use Rattle.std.proofs.Common.{◌≡◌, ℕ, List, [], ◌∷◌, ◌++◌, map, refl, sym, ap, ◌∙◌, subst, append_assoc}
use Rattle.std.specs.Prelude.{Option, Some, None, option_to_list}
use Rattle.std.specs.List.{flat_map}
use Rattle.std.specs.List.Sorted.{IsPermutation}
use Rattle.std.specs.Option.{option_map}
use Rattle.std.proofs.lemmas.List.{map-append}
use Rattle.std.proofs.lemmas.List.Sorted.{IsPermutation-refl, IsPermutation-trans, IsPermutation-append, IsPermutation-append_left}
use Rattle.std.proofs.lemmas.List.Sorted.{IsPermutation-append_right, IsPermutation-append_comm}
use Rattle.ix_items.specs.declared.items.Item.{Item}
use Rattle.ix_items.specs.declared.items.Item.TheVariants as items
use Rattle.ix_model.specs.Bounds.{bucket_items, entry_items}
use Rattle.ix_model.specs.Buckets.{Slot, Index, listed, entered, buckets, ledger}
use Rattle.ix_model.specs.Ledger.{all_frozen}
use Rattle.ix_model.specs.Books.{life_item, number_item}
use Rattle.ix_recovery.specs.ListLaws.{ItemsPart}
use Rattle.ix_recovery.specs.Listed.{index_items, single_items}

-- ---- lists side by side

side_by_side : {Y : Type 0} (f g a b : List Y) → IsPermutation ((f ++ g) ++ (a ++ b)) ((f ++ a) ++ (g ++ b))
side_by_side {Y = Y} f g a b =
    let before : (f ++ g) ++ (a ++ b) ≡ f ++ ((g ++ a) ++ b) = append_assoc f g (a ++ b)
    ∙ ap (λ (l : List Y). f ++ l) (sym (append_assoc g a b)) in
    let behind : f ++ ((a ++ g) ++ b) ≡ (f ++ a) ++ (g ++ b) = ap (λ (l : List Y). f ++ l) (append_assoc a g b)
    ∙ sym (append_assoc f a (g ++ b)) in
    let moved : IsPermutation (f ++ ((g ++ a) ++ b)) (f ++ ((a ++ g) ++ b)) =
    IsPermutation-append_right f ((g ++ a) ++ b) ((a ++ g)
    ++ b) (IsPermutation-append_left b (g ++ a) (a ++ g) (IsPermutation-append_comm g a)) in
    subst (λ (l : List Y). IsPermutation l ((f ++ a) ++ (g ++ b))) (sym before) (subst (IsPermutation (f ++ ((g ++ a) ++ b))) behind moved)

flat_apart : {X Y : Type 0} (f g : X → List Y) (xs : List X) →
    IsPermutation (flat_map (λ (x : X). f x ++ g x) xs) (flat_map f xs ++ flat_map g xs)
flat_apart f g [] = IsPermutation-refl []
flat_apart {X = X} f g (x ∷ xs) =
    IsPermutation-trans _ _ _
    (IsPermutation-append_right (f x ++ g x) (flat_map (λ (y : X). f y ++ g y) xs) (flat_map f xs ++ flat_map g xs) (flat_apart f g xs))
    (side_by_side (f x) (g x) (flat_map f xs) (flat_map g xs))

flat_moved : {X Y : Type 0} (f g : X → List Y) → ((x : X) → IsPermutation (f x) (g x)) → (xs : List X) →
    IsPermutation (flat_map f xs) (flat_map g xs)
flat_moved f g each [] = IsPermutation-refl []
flat_moved f g each (x ∷ xs) = IsPermutation-append (f x) (g x) (flat_map f xs) (flat_map g xs) (each x) (flat_moved f g each xs)

option_front : {X Y : Type 0} (f : X → Y) (o : Option X) (xs : List X) (ys : List Y) → ys ≡ map f xs → option_to_list (option_map f o)
    ++ ys ≡ map f (option_to_list o ++ xs)
option_front f None xs ys e = e
option_front {Y = Y} f (Some x) xs ys e = ap (λ (l : List Y). f x ∷ l) e

-- ---- of an index

abbrev bucket_of : List ℕ → Slot → List Item
bucket_of index s = option_to_list (option_map (items.Bucket index) (listed s.standing))

abbrev entry_of : Slot → List Item
entry_of s = option_to_list (option_map items.Ledger (entered s.standing))

buckets_are : (index : List ℕ) (slots : List Slot) → flat_map (bucket_of index) slots ≡ map (items.Bucket index) (buckets slots)
buckets_are index [] = refl
buckets_are index (s ∷ slots) = option_front (items.Bucket index) (listed s.standing) (buckets slots) (flat_map (bucket_of index) slots)
    (buckets_are index slots)

entries_are : (slots : List Slot) → flat_map entry_of slots ≡ map items.Ledger (ledger slots)
entries_are [] = refl
entries_are (s ∷ slots) = option_front items.Ledger (entered s.standing) (ledger slots) (flat_map entry_of slots) (entries_are slots)

index_parts : (i : Index) → IsPermutation (index_items i) (bucket_items i ++ entry_items i)
index_parts i =
    subst (IsPermutation (index_items i)) (λ k. buckets_are i.name i.slots k
    ++ entries_are i.slots k) (flat_apart (bucket_of i.name) entry_of i.slots)

-- ---- of all indexes

all_entries : (is : List Index) → flat_map entry_items is ≡ map items.Ledger (all_frozen is)
all_entries [] = refl
all_entries (i ∷ is) = ap (λ (l : List Item). entry_items i ++ l) (all_entries is)
    ∙ sym (map-append items.Ledger (ledger i.slots) (all_frozen is))

indexes_part : (is : List Index) → IsPermutation (flat_map index_items is) (flat_map bucket_items is ++ map items.Ledger (all_frozen is))
indexes_part is =
    IsPermutation-trans _ _ _ (flat_moved index_items (λ (i : Index). bucket_items i ++ entry_items i) index_parts is)
    (subst (λ (l : List Item). IsPermutation (flat_map (λ (i : Index). bucket_items i ++ entry_items i) is) (flat_map bucket_items is ++ l))
    (all_entries is) (flat_apart bucket_items entry_items is))

pub items_part : ItemsPart
items_part m =
    let is = m.catalog.indexes in
    let lives = map life_item m.channels in
    let rest = map items.Spot m.spots ++ map number_item is in
    let placed = flat_map bucket_items is in
    let entries = map items.Ledger (all_frozen is) in
    let moved = IsPermutation-append_left rest (flat_map index_items is) (placed ++ entries) (indexes_part is) in
    let parted = subst (IsPermutation (flat_map index_items is ++ rest)) (append_assoc placed entries rest) moved in
    IsPermutation-append_right (single_items m) _ _ (IsPermutation-append_right lives _ _ parted)
