-- The books of two prefixes of a history tell what the files begin with.
use Rattle.std.proofs.Common.{◌≡◌, ◌≢◌, ◌≤◌, ℕ, zero, suc, Bool, true, false, List, [], ◌∷◌, ◌++◌, length, take, drop, refl, sym, ap, ◌∙◌}
use Rattle.std.proofs.Common.{subst, arith, inl, inr, length-append, append-nil}
use Rattle.std.specs.Prelude.{Option, Some, None, ◌⊎◌, slice_get, unwrap_or}
use Rattle.std.specs.Option.{option_map}
use Rattle.ix_base.specs.declared.events.Event.{Event}
use Rattle.ix_base.specs.declared.files.File.{File}
use Rattle.ix_items.specs.declared.items.Bucket.{Bucket}
use Rattle.ix_items.specs.declared.items.Entry.{Entry}
use Rattle.ix_model.specs.Buckets.{Standing, live, frozen, Slot, Index, listed, entered}
use Rattle.ix_model.specs.Followed.{AreFirst, Follows, AreFollowed}
use Rattle.ix_model.specs.Sums.{IsStandingOf, AreSoundFrom}
use Rattle.std.specs.Prelude.{if◌then◌else◌, nat_le}
use Rattle.std.specs.List.{AllByRecursion}
use Rattle.ix_base.specs.declared.files.Area.{Area}
use Rattle.ix_base.specs.declared.files.Area.TheVariants as areas
use Rattle.ix_manifest.specs.Book.{Name, named, has_settings}
use Rattle.ix_items.specs.declared.items.Item.{Item}
use Rattle.ix_items.specs.declared.items.Item.TheVariants as items
use Rattle.ix_commit.specs.Contents.{Contents}
use Rattle.ix_commit.specs.Mounting.{AreNear, IsFamily}
use Rattle.ix_commit.specs.Snapshot.{AreNoLogs}
use Rattle.ix_model.specs.Given.{Chooser}
use Rattle.ix_model.specs.State.{State, Catalog, index_name, fresh_index, slots_in, empty}
use Rattle.ix_model.specs.Step.{state_after, after_from}
use Rattle.ix_model.specs.declared.commands.TimedCommand.{TimedCommand}
use Rattle.ix_catalog.specs.Lists.{find}
use Rattle.ix_model.proofs.Ascending.{in_order_after}
use Rattle.ix_model.proofs.Following.{after_more, followed_after}
use Rattle.ix_model.proofs.Named.{all_found}
use Rattle.ix_model.proofs.Stepping.{AllSound, sound_after}
use Rattle.ix_model.specs.Books.{listed_at, entered_at, bucket_in, entry_in, number_item, book_of, first_book}
use Rattle.ix_model.specs.Contents.{contents_of}
use Rattle.ix_model.specs.Snap.{snapshot_of, snapshot_of_prefix}
use Rattle.ix_model.proofs.Ordered.{told_by_names}

none_some : {X : Type 0} {x : X} → None ≡ Some x → ⊥
none_some e = cc

some_same : {X : Type 0} (x y : X) → Some x ≡ Some y → x ≡ y
some_same x y e = cc

-- ---- one bucket

standing_told : (a b : Standing) → listed a ≡ listed b → entered a ≡ entered b → a ≡ b
standing_told (live x) (live y) l e = ap live (some_same x y l)
standing_told (live x) (frozen f o) l e = absurd (none_some e)
standing_told (frozen f o) (live y) l e = absurd (none_some (sym e))
standing_told (frozen f o) (frozen g p) l e = let same : f ≡ g = some_same f g e in (λ i. frozen (same i) (l i))

-- how many events it says that it has
abbrev said : Standing → ℕ
said (live b) = b.count
said (frozen e other) = e.count

said_is : (index : List ℕ) (id : ℕ) (events : List Event) (standing : Standing) → IsStandingOf index id events standing →
    said standing ≡ length events
said_is index id events (live b) h = h.is_of.sums.count_is
said_is index id events (frozen e other) h = h.0.sums.count_is

none_more : (more : List Event) → length more ≡ 0 → more ≡ []
none_more [] e = refl
none_more (x ∷ more) e = absurd (omega (arith, e))

events_told : (a b : List Event) → AreFirst a b → length a ≡ length b → a ≡ b
events_told a b f e =
    let l = ap (λ (xs : List Event). length xs) f.1 in
    let m = length-append a f.0 in
    let none = none_more f.0 (omega (arith, l, m, e)) in
    sym (append-nil a) ∙ sym (ap (λ (xs : List Event). a ++ xs) none) ∙ sym f.1

slot_told : (index : List ℕ) (id : ℕ) (s t : Slot) → IsStandingOf index id s.events s.standing → IsStandingOf index id t.events t.standing →
    Follows s t →
    listed s.standing ≡ listed t.standing → entered s.standing ≡ entered t.standing → s ≡ t
slot_told index id s t g h f l e =
    let same = standing_told s.standing t.standing l e in
    let many = sym (said_is index id s.events s.standing g) ∙ ap said same ∙ said_is index id t.events t.standing h in
    let events = events_told s.events t.events f.grows many in
    (λ i. record { events = events i; standing = same i })

-- ---- all buckets of an index

slots_told : (index : List ℕ) (id : ℕ) (these those : List Slot) → AreSoundFrom index id these → AreSoundFrom index id those →
    AreFollowed these those → length these ≡ length those →
    ((k : ℕ) → listed_at (slice_get these k) ≡ listed_at (slice_get those k)) →
    ((k : ℕ) → entered_at (slice_get these k) ≡ entered_at (slice_get those k)) → these ≡ those
slots_told index id [] [] g h f n l e = refl
slots_told index id [] (t ∷ those) g h f n l e = absurd (omega (arith, n))
slots_told index id (s ∷ these) [] g h f n l e = absurd f
slots_told index id (s ∷ these) (t ∷ those) g h f n l e =
    let first = slot_told index id s t g.0 h.0 f.0 (l 0) (e 0) in
    let rest = slots_told index (suc id) these those g.1 h.1 f.1 (omega (arith, n)) (λ k. l (suc k)) (λ k. e (suc k)) in
    (λ i. first i ∷ rest i)

-- ---- what two books that are near say alike

bucket_same : (index : List ℕ) (x y : Option Bucket) → option_map (items.Bucket index) x ≡ option_map (items.Bucket index) y → x ≡ y
bucket_same index None None e = refl
bucket_same index None (Some y) e = absurd (none_some e)
bucket_same index (Some x) None e = absurd (none_some (sym e))
bucket_same index (Some x) (Some y) e = ap Some (inside x y (some_same (items.Bucket index x) (items.Bucket index y) e))
  where
    inside : (x y : Bucket) → items.Bucket index x ≡ items.Bucket index y → x ≡ y
    inside x y e = cc

entry_same : (x y : Option Entry) → option_map items.Ledger x ≡ option_map items.Ledger y → x ≡ y
entry_same None None e = refl
entry_same None (Some y) e = absurd (none_some e)
entry_same (Some x) None e = absurd (none_some (sym e))
entry_same (Some x) (Some y) e = ap Some (inside x y (some_same (items.Ledger x) (items.Ledger y) e))
  where
    inside : (x y : Entry) → items.Ledger x ≡ items.Ledger y → x ≡ y
    inside x y e = cc

buckets_told : (a b : State) → AreNear (book_of a) (book_of b) → (index : List ℕ) (id : ℕ) → bucket_in a index id ≡ bucket_in b index id
buckets_told a b near index id =
    bucket_same index (bucket_in a index id) (bucket_in b index id)
    (near (named 6 index id) (λ e. absurd (omega (arith, e))) (λ e. absurd (omega (arith, e))) (λ e. absurd (omega (arith, e))))

entries_told : (a b : State) → AreNear (book_of a) (book_of b) → (index : List ℕ) (id : ℕ) → entry_in a index id ≡ entry_in b index id
entries_told a b near index id =
    entry_same (entry_in a index id) (entry_in b index id)
    (near (named 8 index id) (λ e. absurd (omega (arith, e))) (λ e. absurd (omega (arith, e))) (λ e. absurd (omega (arith, e))))

numbers_told : (a b : State) → AreNear (book_of a) (book_of b) → (name : List ℕ) →
    option_map number_item (find index_name name a.catalog.indexes) ≡ option_map number_item (find index_name name b.catalog.indexes)
numbers_told a b near name = near (named 13 name 0) (λ e. absurd (omega (arith, e))) (λ e. absurd (omega (arith, e)))
    (λ e. absurd (omega (arith, e)))

next_told : (a b : State) → AreNear (book_of a) (book_of b) → a.catalog.next_file ≡ b.catalog.next_file
next_told a b near =
    inside (near (named 11 [] 0) (λ e. absurd (omega (arith, e))) (λ e. absurd (omega (arith, e))) (λ e. absurd (omega (arith, e))))
  where
    inside : Some (items.NextFile a.catalog.next_file) ≡ Some (items.NextFile b.catalog.next_file) →
        a.catalog.next_file ≡ b.catalog.next_file
    inside e = cc

-- ---- the indexes

number_name : (i j : Index) → number_item i ≡ number_item j → i.name ≡ j.name
number_name i j e = cc

number_length : (i j : Index) → number_item i ≡ number_item j → length i.slots ≡ length j.slots
number_length i j e = cc

-- the buckets of an index that is found under a name
found_slots : (is : List Index) (name : List ℕ) (i : Index) → find index_name name is ≡ Some i → slots_in is name ≡ i.slots
found_slots is name i e = ap (λ (o : Option Index). (unwrap_or o (fresh_index name)).slots) e

index_told : (a b : State) → AreNear (book_of a) (book_of b) → AllSound a.catalog → AllSound b.catalog → (name : List ℕ) →
    AreFollowed (slots_in a.catalog.indexes name) (slots_in b.catalog.indexes name) →
    (x y : Option Index) → find index_name name a.catalog.indexes ≡ x → find index_name name b.catalog.indexes ≡ y →
    option_map number_item x ≡ option_map number_item y → x ≡ y
index_told a b near g h name f None None p q e = refl
index_told a b near g h name f None (Some j) p q e = absurd (none_some e)
index_told a b near g h name f (Some i) None p q e = absurd (none_some (sym e))
index_told a b near g h name f (Some i) (Some j) p q e =
    let same = some_same (number_item i) (number_item j) e in
    let names = number_name i j same in
    let si = found_slots a.catalog.indexes name i p in
    let sj = found_slots b.catalog.indexes name j q in
    let gi : AreSoundFrom i.name 0 i.slots = all_found _ index_name name i a.catalog.indexes g p in
    let hj : AreSoundFrom j.name 0 j.slots = all_found _ index_name name j b.catalog.indexes h q in
    let fij : AreFollowed i.slots j.slots = subst (λ (s : List Slot). AreFollowed i.slots s) sj
    (subst (λ (s : List Slot). AreFollowed s (slots_in b.catalog.indexes name)) si f) in
    let ls : (k : ℕ) → listed_at (slice_get i.slots k) ≡ listed_at (slice_get j.slots k) = λ k.
    sym (ap (λ (s : List Slot). listed_at (slice_get s k)) si) ∙ buckets_told a b near name k
    ∙ ap (λ (s : List Slot). listed_at (slice_get s k)) sj in
    let es : (k : ℕ) → entered_at (slice_get i.slots k) ≡ entered_at (slice_get j.slots k) = λ k.
    sym (ap (λ (s : List Slot). entered_at (slice_get s k)) si) ∙ entries_told a b near name k
    ∙ ap (λ (s : List Slot). entered_at (slice_get s k)) sj in
    let slots = slots_told i.name 0 i.slots j.slots gi (subst (λ (n : List ℕ). AreSoundFrom n 0 j.slots) (sym names) hj) fij
    (number_length i j same) ls es in
    (λ k. Some (record { name = names k; slots = slots k }))

indexes_told : (choose : Chooser) (before later : List TimedCommand) →
    AreNear (book_of (state_after choose before)) (book_of (state_after choose (before ++ later))) →
    (state_after choose before).catalog.indexes ≡ (state_after choose (before ++ later)).catalog.indexes
indexes_told choose before later near =
    let a : State = state_after choose before in
    let b : State = state_after choose (before ++ later) in
    told_by_names index_name a.catalog.indexes b.catalog.indexes (in_order_after choose before).indexes
    (in_order_after choose (before ++ later)).indexes
    (λ name.
    let f : AreFollowed (slots_in a.catalog.indexes name) (slots_in b.catalog.indexes name) =
    subst (λ (m : State). AreFollowed (slots_in a.catalog.indexes name) (slots_in m.catalog.indexes name))
    (sym (after_more choose empty before later))
    (followed_after choose a later name (sound_after choose before)) in
    index_told a b near (sound_after choose before) (sound_after choose (before ++ later)) name f
    (find index_name name a.catalog.indexes) (find index_name name b.catalog.indexes) refl refl (numbers_told a b near name))

-- what the files begin with goes by the indexes and the number of the next file
same_contents : (s t : Catalog) → s.indexes ≡ t.indexes → s.next_file ≡ t.next_file → contents_of s ≡ contents_of t
same_contents s t e n = (λ k. contents_of (record { indexes = e k; ledger = s.ledger; counts = s.counts; next_file = n k }))

states_told : (choose : Chooser) (before later : List TimedCommand) →
    AreNear (book_of (state_after choose before)) (book_of (state_after choose (before ++ later))) →
    contents_of (state_after choose before).catalog ≡ contents_of (state_after choose (before ++ later)).catalog
states_told choose before later near =
    same_contents (state_after choose before).catalog (state_after choose (before ++ later)).catalog (indexes_told choose before later near)
    (next_told (state_after choose before) (state_after choose (before ++ later)) near)

-- ---- prefixes

near_back : (a b : Name → Option Item) → AreNear a b → AreNear b a
near_back a b near = λ name x y z. sym (near name x y z)

-- a store that has accepted nothing keeps no number of a next file
not_first : (m : State) → AreNear first_book (book_of m) → ⊥
not_first m near = none_some (near (named 11 [] 0) (λ e. absurd (omega (arith, e))) (λ e. absurd (omega (arith, e)))
    (λ e. absurd (omega (arith, e))))

told_later : (choose : Chooser) (before later : List TimedCommand) →
    AreNear (snapshot_of choose before).book (snapshot_of choose (before ++ later)).book →
    (snapshot_of choose before).contents ≡ (snapshot_of choose (before ++ later)).contents
told_later choose [] [] near = refl
told_later choose [] (o ∷ later) near = absurd (not_first (state_after choose (o ∷ later)) near)
told_later choose (o ∷ before) later near = states_told choose (o ∷ before) later near

-- the first commands are those of a longer prefix, and some more
prefix_more : (h : List TimedCommand) (i j : ℕ) → i ≤ j → take j h ≡ take i h ++ drop i (take j h)
prefix_more h zero j le = refl
prefix_more [] (suc i) zero le = refl
prefix_more [] (suc i) (suc j) le = refl
prefix_more (o ∷ h) (suc i) zero le = absurd (omega (arith, le))
prefix_more (o ∷ h) (suc i) (suc j) le = ap (λ (xs : List TimedCommand). o ∷ xs) (prefix_more h i j (omega (arith, le)))

told_up : (choose : Chooser) (h : List TimedCommand) (i j : ℕ) → i ≤ j →
    AreNear (snapshot_of_prefix choose h i).book (snapshot_of_prefix choose h j).book →
    (snapshot_of_prefix choose h i).contents ≡ (snapshot_of_prefix choose h j).contents
told_up choose h i j le near =
    let is = prefix_more h i j le in
    subst (λ (p : List TimedCommand). (snapshot_of choose (take i h)).contents ≡ (snapshot_of choose p).contents) (sym is)
    (told_later choose (take i h) (drop i (take j h)) (subst
    (λ (p : List TimedCommand). AreNear (snapshot_of choose (take i h)).book (snapshot_of choose p).book) is near))

either : (i j : ℕ) → (i ≤ j) ⊎ (j ≤ i)
either zero j = inl (omega arith)
either (suc i) zero = inr (omega arith)
either (suc i) (suc j) = by (either i j)
  where
    by : (i ≤ j) ⊎ (j ≤ i) → (suc i ≤ suc j) ⊎ (suc j ≤ suc i)
    by (inl e) = inl (omega (arith, e))
    by (inr e) = inr (omega (arith, e))

told_any : (choose : Chooser) (h : List TimedCommand) (i j : ℕ) →
    AreNear (snapshot_of_prefix choose h i).book (snapshot_of_prefix choose h j).book →
    (snapshot_of_prefix choose h i).contents ≡ (snapshot_of_prefix choose h j).contents
told_any choose h i j near = by (either i j)
  where
    by : (i ≤ j) ⊎ (j ≤ i) → (snapshot_of_prefix choose h i).contents ≡ (snapshot_of_prefix choose h j).contents
    by (inl e) = told_up choose h i j e near
    by (inr e) = sym (told_up choose h j i e (near_back (snapshot_of_prefix choose h i).book (snapshot_of_prefix choose h j).book near))

no_logs : (s : Catalog) → AreNoLogs (contents_of s)
no_logs s = λ file meta. let e : (file.area ≡ areas.Meta) = meta in rw e refl

no_logs_left : (choose : Chooser) (h : List TimedCommand) → AreNoLogs (snapshot_of choose h).contents
no_logs_left choose [] = no_logs empty.catalog
no_logs_left choose (o ∷ h) = no_logs (state_after choose (o ∷ h)).catalog

pub family : (choose : Chooser) (h : List TimedCommand) → IsFamily (snapshot_of_prefix choose h) 0 (length h)
family choose h = record {
  told = λ i j a b c d near. told_any choose h i j near;
  apart = λ i a b. no_logs_left choose (take i h);
  settled = λ i a b. settled (take i h);
}
  where
    settled : (p : List TimedCommand) → has_settings (snapshot_of choose p).book ≡ true
    settled [] = refl
    settled (o ∷ p) = refl
