-- What the items of a state add up to.
use Rattle.std.proofs.Common.{◌≡◌, ◌≤◌, ℕ, ◌+◌, ◌==◌, Bool, inl, inr, List, [], ◌∷◌, ◌++◌, map, length, refl, sym, ap, ◌∙◌, arith}
use Rattle.std.proofs.Common.{length-append}
use Rattle.std.specs.Prelude.{Option, Some, None, if◌then◌else◌, option_to_list}
use Rattle.std.specs.List.{AllByRecursion, flat_map, sum_by}
use Rattle.std.specs.Option.{option_map}
use Rattle.std.proofs.lemmas.Bool.{eqb-true}
use Rattle.std.proofs.lemmas.List.Sums.{sum_by-cons, sum_by-append}
use Rattle.ix_base.specs.declared.events.Spot.{Spot}
use Rattle.ix_base.specs.declared.files.File.{File}
use Rattle.ix_items.specs.Spelling.{item_bytes, body_bytes}
use Rattle.ix_items.specs.declared.items.Bucket.{Bucket}
use Rattle.ix_items.specs.declared.items.Entry.{Entry}
use Rattle.ix_items.specs.declared.items.Item.{Item}
use Rattle.ix_items.specs.declared.items.Item.TheVariants as items
use Rattle.ix_model.specs.Bounds.{sized_items, bucket_items, entry_items, next_item, channel_item}
use Rattle.ix_model.specs.Bounds as machine
use Rattle.ix_model.specs.Buckets.{Standing, live, frozen, Slot, Index, listed, entered, buckets, ledger}
use Rattle.ix_model.specs.Files.{standing_uses, slot_uses, index_uses}
use Rattle.ix_model.specs.Files as files
use Rattle.ix_model.specs.Given.{Chooser}
use Rattle.ix_model.specs.State.{State, ChannelHistory}
use Rattle.ix_model.specs.Step.{state_after}
use Rattle.ix_model.specs.declared.commands.TimedCommand.{TimedCommand}
use Rattle.ix_model.proofs.Named.{by_test}
use Rattle.ix_replay.specs.Amounts.{archive_file, is_numbered, uses, bytes_in, events_in, channels_in, size_in}
use Rattle.ix_model.specs.Books.{life_item, number_item}
use Rattle.ix_model.proofs.Unchanged.{HasSome, some_after}
use Rattle.ix_recovery.specs.Among.{IsAmong}
use Rattle.ix_recovery.specs.Listed.{slot_items, index_items, state_items, left_items, removal_item, all_items}

-- ---- sums over lists

sum_map : {X Y : Type 0} (g : Y → ℕ) (f : X → Y) (xs : List X) → sum_by g (map f xs) ≡ sum_by (λ (x : X). g (f x)) xs
sum_map g f [] = refl
sum_map {X = X} g f (x ∷ xs) =
    sum_by-cons g (f x) (map f xs) ∙ ap (λ (n : ℕ). g (f x) + n) (sum_map g f xs) ∙ sym (sum_by-cons (λ (y : X). g (f y)) x xs)

pub sum_flat : {X Y : Type 0} (g : Y → ℕ) (f : X → List Y) (xs : List X) → sum_by g (flat_map f xs) ≡ sum_by (λ (x : X). sum_by g (f x)) xs
sum_flat g f [] = refl
sum_flat {X = X} g f (x ∷ xs) =
    sum_by-append g (f x) (flat_map f xs) ∙ ap (λ (n : ℕ). sum_by g (f x) + n) (sum_flat g f xs)
    ∙ sym (sum_by-cons (λ (y : X). sum_by g (f y)) x xs)

sum_same : {X : Type 0} (f g : X → ℕ) (xs : List X) → ((x : X) → f x ≡ g x) → sum_by f xs ≡ sum_by g xs
sum_same {X = X} f g xs e = ap (λ (h : X → ℕ). sum_by h xs) (λ i x. e x i)

sum_each : {X : Type 0} (f g : X → ℕ) (xs : List X) → AllByRecursion (λ (x : X). f x ≡ g x) xs → sum_by f xs ≡ sum_by g xs
sum_each f g [] h = refl
sum_each f g (x ∷ xs) h =
    sum_by-cons f x xs ∙ (λ i. h.0 i + sum_each f g xs h.1 i) ∙ sym (sum_by-cons g x xs)

sum_none : {X : Type 0} (xs : List X) → sum_by (λ (x : X). 0) xs ≡ 0
sum_none [] = refl
sum_none {X = X} (x ∷ xs) = let a = sum_by-cons (λ (y : X). 0) x xs in let b = sum_none xs in omega (arith, a, b)

sum_ones : {X : Type 0} (xs : List X) → sum_by (λ (x : X). 1) xs ≡ length xs
sum_ones [] = refl
sum_ones {X = X} (x ∷ xs) = let a = sum_by-cons (λ (y : X). 1) x xs in let b = sum_ones xs in omega (arith, a, b)

sum_plus : {X : Type 0} (f g : X → ℕ) (xs : List X) → sum_by (λ (x : X). f x + g x) xs ≡ sum_by f xs + sum_by g xs
sum_plus f g [] = refl
sum_plus {X = X} f g (x ∷ xs) =
    let a = sum_by-cons (λ (y : X). f y + g y) x xs in
    let b = sum_by-cons f x xs in
    let c = sum_by-cons g x xs in
    let d = sum_plus f g xs in
    omega (arith, a, b, c, d)

-- one of a list counts for no more than all of it
pub sum_among : {X : Type 0} (f : X → ℕ) (x : X) (xs : List X) → IsAmong x xs → f x ≤ sum_by f xs
sum_among f x [] h = absurd h
sum_among f x (y ∷ xs) (inl e) = let a = sum_by-cons f y xs in let b = ap f e in omega (arith, a, b)
sum_among f x (y ∷ xs) (inr h) = let a = sum_by-cons f y xs in let b = sum_among f x xs h in omega (arith, a, b)

-- ---- of the items of a state

four_and_four : (g : Item → ℕ) (w x y z : Item) (a b c d : List Item) →
    sum_by g (w ∷ (x ∷ (y ∷ (z ∷ (a ++ (b ++ (c ++ d))))))) ≡ (g w + (g x + (g y + g z))) + (sum_by g
    a + (sum_by g b + (sum_by g c + sum_by g d)))
four_and_four g w x y z a b c d =
    let p = sum_by-cons g w (x ∷ (y ∷ (z ∷ (a ++ (b ++ (c ++ d)))))) in
    let q = sum_by-cons g x (y ∷ (z ∷ (a ++ (b ++ (c ++ d))))) in
    let r = sum_by-cons g y (z ∷ (a ++ (b ++ (c ++ d)))) in
    let s = sum_by-cons g z (a ++ (b ++ (c ++ d))) in
    let t = sum_by-append g a (b ++ (c ++ d)) in
    let u = sum_by-append g b (c ++ d) in
    let v = sum_by-append g c d in
    omega (arith, p, q, r, s, t, u, v)

abbrev pub counts_item : State → Item
counts_item m = items.Counts m.catalog.counts.settled m.catalog.counts.nulled m.catalog.counts.dropped m.catalog.counts.placed

abbrev pub singles_sum : (Item → ℕ) → State → ℕ
singles_sum g m = g (items.Settings m.force) + (g (items.Moments m.last m.tick) + (g (counts_item m) + g
    (items.NextFile m.catalog.next_file)))

pub state_sum : (g : Item → ℕ) (m : State) →
    sum_by g (state_items m)
    ≡ singles_sum g m + (sum_by (λ (l : ChannelHistory). g (life_item l))
    m.channels + (sum_by (λ (i : Index). sum_by g (index_items i)) m.catalog.indexes
    + (sum_by (λ (s : Spot). g (items.Spot s)) m.spots + sum_by (λ (i : Index). g (number_item i)) m.catalog.indexes)))
state_sum g m =
    let whole = four_and_four g (items.Settings m.force) (items.Moments m.last m.tick) (counts_item m) (items.NextFile m.catalog.next_file)
    (map life_item m.channels) (flat_map index_items m.catalog.indexes) (map items.Spot m.spots) (map number_item m.catalog.indexes) in
    let a = sum_map g life_item m.channels in
    let b = sum_flat g index_items m.catalog.indexes in
    let c = sum_map g items.Spot m.spots in
    let d = sum_map g number_item m.catalog.indexes in
    whole ∙ (λ i. singles_sum g m + (a i + (b i + (c i + d i))))

-- ---- of an index

option_sum : {X : Type 0} (g : Item → ℕ) (f : X → Item) (o : Option X) →
    sum_by g (option_to_list (option_map f o)) ≡ sum_by (λ (x : X). g (f x)) (option_to_list o)
option_sum g f None = refl
option_sum g f (Some x) = refl

slots_sum : (g : Item → ℕ) (index : List ℕ) (slots : List Slot) →
    sum_by g (flat_map (slot_items index) slots) ≡ sum_by (λ (b : Bucket). g (items.Bucket index b)) (buckets slots) + sum_by
    (λ (e : Entry). g (items.Ledger e)) (ledger slots)
slots_sum g index [] = refl
slots_sum g index (s ∷ slots) =
    let a = sum_by-append g (slot_items index s) (flat_map (slot_items index) slots) in
    let b = sum_by-append g (option_to_list (option_map (items.Bucket index) (listed s.standing)))
    (option_to_list (option_map items.Ledger (entered s.standing))) in
    let c = sum_by-append (λ (x : Bucket). g (items.Bucket index x)) (option_to_list (listed s.standing)) (buckets slots) in
    let d = sum_by-append (λ (x : Entry). g (items.Ledger x)) (option_to_list (entered s.standing)) (ledger slots) in
    let e = option_sum g (items.Bucket index) (listed s.standing) in
    let f = option_sum g items.Ledger (entered s.standing) in
    let rest = slots_sum g index slots in
    omega (arith, a, b, c, d, e, f, rest)

pub indexes_sum : (g : Item → ℕ) (is : List Index) →
    sum_by (λ (i : Index). sum_by g (index_items i)) is
    ≡ sum_by (λ (i : Index). sum_by (λ (b : Bucket). g (items.Bucket i.name b)) (buckets i.slots) + sum_by
    (λ (e : Entry). g (items.Ledger e)) (ledger i.slots)) is
indexes_sum g is = sum_same _ _ is (λ i. slots_sum g i.name i.slots)

-- ---- of each amount

bytes_are : (m : State) → sum_by bytes_in (state_items m) ≡ sum_by machine.bytes_in m.catalog.indexes
bytes_are m =
    let a = state_sum bytes_in m in
    let b = indexes_sum bytes_in m.catalog.indexes in
    let c = sum_none m.channels in
    let d = sum_none m.spots in
    let e = sum_none m.catalog.indexes in
    omega (arith, a, b, c, d, e)

events_are : (m : State) → sum_by events_in (state_items m) ≡ sum_by machine.events_in m.catalog.indexes
events_are m =
    let a = state_sum events_in m in
    let b = indexes_sum events_in m.catalog.indexes in
    let c = sum_none m.channels in
    let d = sum_none m.spots in
    let e = sum_none m.catalog.indexes in
    omega (arith, a, b, c, d, e)

no_channels : (is : List Index) → sum_by (λ (i : Index). sum_by channels_in (index_items i)) is ≡ 0
no_channels is =
    sum_same (λ (i : Index). sum_by channels_in (index_items i)) (λ (i : Index). 0) is
    (λ i. slots_sum channels_in i.name i.slots ∙ (λ k. sum_none (buckets i.slots) k + sum_none (ledger i.slots) k))
    ∙ sum_none is

channels_are : (m : State) → sum_by channels_in (state_items m) ≡ length m.channels
channels_are m =
    let a = state_sum channels_in m in
    let b = no_channels m.catalog.indexes in
    let c = sum_ones m.channels in
    let d = sum_none m.spots in
    let e = sum_none m.catalog.indexes in
    omega (arith, a, b, c, d, e)

-- ---- the size

abbrev pub long : Item → ℕ
long x = length (item_bytes x)

pub body_sum : (xs : List Item) → length (body_bytes xs) ≡ sum_by long xs
body_sum [] = refl
body_sum (x ∷ xs) =
    let a = length-append (item_bytes x) (body_bytes xs) in
    let b = body_sum xs in
    let c = sum_by-cons long x xs in
    omega (arith, a, b, c)

one_and_five : (g : Item → ℕ) (x : Item) (a b c d e : List Item) →
    sum_by g (x ∷ a ++ b ++ c ++ d ++ e) ≡ g x + (sum_by g a + (sum_by g b + (sum_by g c + (sum_by g d + sum_by g e))))
one_and_five g x a b c d e =
    let p = sum_by-append g (x ∷ a ++ b ++ c ++ d) e in
    let q = sum_by-append g (x ∷ a ++ b ++ c) d in
    let r = sum_by-append g (x ∷ a ++ b) c in
    let s = sum_by-append g (x ∷ a) b in
    let t = sum_by-cons g x a in
    omega (arith, p, q, r, s, t)

buckets_sized : (is : List Index) → sum_by long (flat_map bucket_items is) ≡ sum_by
    (λ (i : Index). sum_by (λ (b : Bucket). long (items.Bucket i.name b)) (buckets i.slots)) is
buckets_sized is = sum_flat long bucket_items is ∙ sum_same _ _ is (λ i. sum_map long (items.Bucket i.name) (buckets i.slots))

entries_sized : (is : List Index) → sum_by long (flat_map entry_items is) ≡ sum_by
    (λ (i : Index). sum_by (λ (e : Entry). long (items.Ledger e)) (ledger i.slots)) is
entries_sized is = sum_flat long entry_items is ∙ sum_same _ _ is (λ i. sum_map long items.Ledger (ledger i.slots))

pub numbers_sized : (is : List Index) → AllByRecursion HasSome is →
    sum_by (λ (i : Index). size_in (number_item i)) is ≡ sum_by (λ (i : Index). long (next_item i)) is
numbers_sized is h = sum_each (λ (i : Index). size_in (number_item i)) (λ (i : Index). long (next_item i)) is (each is h)
  where
    one : (i : Index) → HasSome i → size_in (number_item i) ≡ long (next_item i)
    one i h = by_test (length i.slots == 0)
        (λ t. absurd (let e = eqb-true (length i.slots) 0 t in omega (arith, e, h)))
        (λ t. ap (λ (b : Bool). if b then 0 else long (next_item i)) t)

    each : (js : List Index) → AllByRecursion HasSome js → AllByRecursion (λ (i : Index). size_in (number_item i) ≡ long (next_item i)) js
    each [] k = tt
    each (j ∷ js) k = (one j k.0, each js k.1)

size_is : (m : State) → AllByRecursion HasSome m.catalog.indexes → sum_by size_in (state_items m) ≡ length (body_bytes (sized_items m))
size_is m some =
    let is = m.catalog.indexes in
    let a = state_sum size_in m in
    let b = indexes_sum size_in is in
    let c = sum_plus (λ (i : Index). sum_by (λ (x : Bucket). long (items.Bucket i.name x)) (buckets i.slots))
    (λ (i : Index). sum_by (λ (x : Entry). long (items.Ledger x)) (ledger i.slots)) is in
    let d = numbers_sized is some in
    let e = body_sum (sized_items m) in
    let f = one_and_five long (items.Settings m.force) (flat_map bucket_items is) (flat_map entry_items is) (map items.Spot m.spots)
    (map next_item is) (map channel_item m.channels) in
    let g = buckets_sized is in
    let h = entries_sized is in
    let j = sum_map long items.Spot m.spots in
    let k = sum_map long next_item is in
    let l = sum_map long channel_item m.channels in
    omega (arith, a, b, c, d, e, f, g, h, j, k, l)

-- ---- the numbers of files

archive_is : (n : ℕ) (archive : Option ℕ) → is_numbered n (archive_file archive) ≡ files.archive_uses n archive
archive_is n None = refl
archive_is n (Some number) = refl

slot_numbers : (n : ℕ) (index : List ℕ) (standing : Standing) →
    sum_by (uses n) (option_to_list (option_map (items.Bucket index) (listed standing))
    ++ option_to_list (option_map items.Ledger (entered standing))) ≡ standing_uses n standing
slot_numbers n index (live b) = let a = sum_by-cons (uses n) (items.Bucket index b) [] in omega (arith, a)
slot_numbers n index (frozen e None) = let a = sum_by-cons (uses n) (items.Ledger e) [] in let b = archive_is n e.archive in
    omega (arith, a, b)
slot_numbers n index (frozen e (Some x)) =
    let a = sum_by-cons (uses n) (items.Bucket index x) (items.Ledger e ∷ []) in
    let b = sum_by-cons (uses n) (items.Ledger e) [] in
    let c = archive_is n e.archive in
    omega (arith, a, b, c)

index_numbers : (n : ℕ) (is : List Index) → sum_by (λ (i : Index). sum_by (uses n) (index_items i)) is ≡ sum_by (index_uses n) is
index_numbers n is = sum_same _ _ is (λ i. sum_flat (uses n) (slot_items i.name) i.slots
    ∙ sum_same _ _ i.slots (λ s. slot_numbers n i.name s.standing))

numbers_are : (n : ℕ) (m : State) → sum_by (uses n) (state_items m) ≡ files.uses n m.catalog
numbers_are n m =
    let a = state_sum (uses n) m in
    let b = index_numbers n m.catalog.indexes in
    let c = sum_none m.channels in
    let d = sum_none m.spots in
    let e = sum_none m.catalog.indexes in
    omega (arith, a, b, c, d, e)

-- ---- all of them

-- The items come to what the bounds of a state speak of.
pub record HasAmounts (said : List Item) (m : State) : Type 0 where
  pub bytes : sum_by bytes_in said ≡ sum_by machine.bytes_in m.catalog.indexes
  pub events : sum_by events_in said ≡ sum_by machine.events_in m.catalog.indexes
  pub channels : sum_by channels_in said ≡ length m.channels
  pub size : sum_by size_in said ≡ length (body_bytes (sized_items m))
  pub numbers : (n : ℕ) → sum_by (uses n) said ≡ files.uses n m.catalog

pub amounts_left : (choose : Chooser) (history : List TimedCommand) → HasAmounts (left_items choose history) (state_after choose history)
amounts_left choose [] = record {
  bytes = refl;
  events = refl;
  channels = refl;
  size = sym (body_sum (items.Settings [] ∷ []));
  numbers = λ n. refl;
}
amounts_left choose (o ∷ history) =
    let m : State = state_after choose (o ∷ history) in
    record {
      bytes = bytes_are m;
      events = events_are m;
      channels = channels_are m;
      size = size_is m (some_after choose (o ∷ history));
      numbers = λ n. numbers_are n m;
    }

-- a run and last removals count for nothing
pub over_sum : (g : Item → ℕ) (run : ℕ) (removed : Option (List File)) (said : List Item) → g (items.Run run) ≡ 0 →
    ((list : List File) → g (items.Removals list) ≡ 0) →
    sum_by g (all_items run removed said) ≡ sum_by g said
over_sum g run removed said none none_removed =
    let a = sum_by-cons g (items.Run run) (option_to_list (removal_item removed) ++ said) in
    let b = sum_by-append g (option_to_list (removal_item removed)) said in
    let c = by removed in
    omega (arith, a, b, c, none)
  where
    by : (o : Option (List File)) → sum_by g (option_to_list (removal_item o)) ≡ 0
    by None = refl
    by (Some list) = let a = sum_by-cons g (items.Removals list) [] in let b = none_removed list in omega (arith, a, b)
