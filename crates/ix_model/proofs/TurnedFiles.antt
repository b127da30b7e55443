-- The copies of a turn lead to what the files then begin with, and the files that it leaves are
-- done with.
use Rattle.std.proofs.Common.{◌≡◌, ◌<◌, ◌≤◌, ℕ, zero, suc, ◌+◌, ℤ, Bool, true, false, List, [], ◌∷◌, ◌++◌, length, refl, sym, ap, ◌∙◌}
use Rattle.std.proofs.Common.{arith, subst, inl, inr}
use Rattle.std.specs.Prelude.{Option, Some, None, ◌⊎◌, is_some, fold, slice_get, unwrap_or, bytes_eq, option_to_list}
use Rattle.std.specs.List.{AllByRecursion, flat_map, sum_by}
use Rattle.std.proofs.lemmas.List.Sums.{sum_by-cons}
use Rattle.ix_base.specs.declared.files.File.{File}
use Rattle.ix_bucket.specs.Record.{records}
use Rattle.ix_items.specs.declared.items.Bucket.{Bucket}
use Rattle.ix_items.specs.declared.items.Kept.{Kept}
use Rattle.ix_commit.specs.Contents.{Contents}
use Rattle.ix_commit.specs.Drafts.{with_copies, AreFitCopies}
use Rattle.ix_commit.specs.Snapshot.{Forgets}
use Rattle.ix_commit.specs.declared.file_copy.FileCopy.{FileCopy}
use Rattle.ix_model.specs.Buckets.{Standing, live, Slot, Index, listed, buckets}
use Rattle.ix_model.specs.Files.{AreApart}
use Rattle.ix_model.specs.Keeping as kept
use Rattle.ix_model.specs.Shown.{configured, with_fresh, index_view}
use Rattle.ix_model.specs.State.{Catalog, index_name, fresh_index}
use Rattle.ix_model.specs.Step.{turn_in, turned_index, files_taken, all_turned, tick}
use Rattle.ix_model.specs.Sums.{IsStandingOf, IsLiveOf, IsSound}
use Rattle.ix_model.proofs.Named.{by_test, all_found}
use Rattle.ix_model.proofs.Placing.{In}
use Rattle.ix_model.proofs.Stepping.{AllSound}
use Rattle.ix_catalog.specs.Buckets.{Turn}
use Rattle.ix_catalog.specs.Lists.{find, stands_before, insert, AreAscending}
use Rattle.ix_catalog.specs.Turning.{left_files, turn_all}
use Rattle.ix_catalog.specs.declared.housekeeping_result.HousekeepingResult.{HousekeepingResult}
use Rattle.ix_model.specs.Contents.{Filed, filed_by, filed_slot, filed, is_meta_area, contents_of}
use Rattle.ix_model.specs.Done.{IsDone}
use Rattle.ix_model.specs.OnDisk.{HasNoneFrom, AreCopied}
use Rattle.ix_model.specs.Shelved.{shelved}
use Rattle.ix_model.proofs.Areas.{AreApartFromLogs, live_apart}
use Rattle.ix_model.proofs.Copying.{AreBetween, AreWhole, then_between, fit_copies, not_between, copied_has}
use Rattle.ix_model.proofs.Filing.{filed_count, none_counted, slot_at, IsFiled, slot_found, in_left, in_right, in_either, from_flat}
use Rattle.ix_model.proofs.Filing.{in_flat, place_of, in_found, in_filed, number_below, one_bucket, bytes_there, none_yet, says_less}
use Rattle.ix_model.proofs.Listing.{among, or_fresh, find_fresh, ascending_fresh, sound_fresh}
use Rattle.ix_model.proofs.Putting.{sound_from_start}
use Rattle.ix_model.proofs.TurnedCopies.{slot_copies, slots_copies, copies_same, slots_between, copy_of, IsNew, new_or_old, leaving}
use Rattle.ix_model.proofs.TurnedCopies.{IsLeft, left_of}
use Rattle.ix_model.proofs.TurnedIndexes.{views_copies, views_left, taken, seen, all_seen, taken_view, turn_made, change_nothing}

none_some : {X : Type 0} {x : X} → None ≡ Some x → ⊥
none_some e = cc

true_false : true ≡ false → ⊥
true_false e = cc

some_same : {X : Type 0} {x y : X} → Some x ≡ Some y → x ≡ y
some_same e = cc

-- ---- the copies of all indexes

abbrev index_copies : List Kept → ℤ → ℕ → Index → List FileCopy
index_copies force moment file i = slots_copies (turn_in force moment i) file i.slots

abbrev all_copies : List Kept → ℤ → ℕ → List Index → List FileCopy
all_copies force moment file [] = []
all_copies force moment file (i ∷ is) = index_copies force moment file i ++ all_copies force moment (file + files_taken force moment i) is

views_same : (force : List Kept) (moment : ℤ) (file : ℕ) (is : List Index) → AllByRecursion IsSound is →
    views_copies moment file (seen force is) ≡ all_copies force moment file is
views_same force moment file [] h = refl
views_same force moment file (i ∷ is) h =
    ap (λ (xs : List FileCopy). xs ++ views_copies moment (file + taken moment (index_view force i)) (seen force is))
    (copies_same (turn_in force moment i) i.name 0 file i.slots h.0)
    ∙ ap (λ (n : ℕ). index_copies force moment file i ++ views_copies moment (file + n) (seen force is)) (taken_view force moment i h.0)
    ∙ ap (λ (xs : List FileCopy). index_copies force moment file i
    ++ xs) (views_same force moment (file + files_taken force moment i) is h.1)

put_copies : (force : List Kept) (moment : ℤ) (file : ℕ) (n : List ℕ) (is : List Index) →
    all_copies force moment file (insert index_name (fresh_index n) is) ≡ all_copies force moment file is
put_copies force moment file n [] = refl
put_copies force moment file n (i ∷ is) =
    by_test (stands_before index_name i (fresh_index n))
    (λ t. rw t (ap (λ (xs : List FileCopy). index_copies force moment file i
    ++ xs) (put_copies force moment (file + files_taken force moment i) n is)))
    (λ t. rw t (ap (λ (k : ℕ). all_copies force moment k (i ∷ is)) (let e : file + 0 ≡ file = omega arith in e)))

fresh_copies : (force : List Kept) (moment : ℤ) (file : ℕ) (names : List (List ℕ)) (is : List Index) →
    all_copies force moment file (fold with_fresh is names) ≡ all_copies force moment file is
fresh_copies force moment file [] is = refl
fresh_copies force moment file (n ∷ names) is =
    fresh_copies force moment file names (with_fresh is n)
    ∙ by_test (is_some (find index_name n is))
    (λ t. rw t (ap (all_copies force moment file) (change_nothing n is)))
    (λ t. rw t (put_copies force moment file n is))

copies_are : (force : List Kept) (moment : ℤ) (s : Catalog) → AllSound s →
    (turn_all moment (shelved force s)).copies ≡ all_copies force moment s.next_file s.indexes
copies_are force moment s h =
    ap (λ (t : HousekeepingResult). t.copies) (turn_made force moment s)
    ∙ views_same force moment s.next_file (all_seen force s) (sound_fresh (configured force) s.indexes h)
    ∙ fresh_copies force moment s.next_file (configured force) s.indexes

all_between : (force : List Kept) (moment : ℤ) (file : ℕ) (is : List Index) → AllByRecursion IsSound is →
    AreBetween file (file + sum_by (files_taken force moment) is) (all_copies force moment file is)
all_between force moment file [] h = omega arith
all_between force moment file (i ∷ is) h =
    let next = file + files_taken force moment i in
    subst (λ (n : ℕ). AreBetween file n (all_copies force moment file (i ∷ is)))
    (let a = sum_by-cons (files_taken force moment) i is in
    let e : next + sum_by (files_taken force moment) is ≡ file + sum_by (files_taken force moment) (i ∷ is) = omega (arith, a) in e)
    (then_between file next (next + sum_by (files_taken force moment) is) (index_copies force moment file i)
    (all_copies force moment next is)
    (slots_between (turn_in force moment i) i.name 0 file i.slots h.0) (all_between force moment next is h.1))

-- ---- where a copy comes from

record InSlots (t : Turn) (file : ℕ) (slots : List Slot) (x : FileCopy) : Type 0 where
  place : ℕ
  slot : Slot
  number : ℕ
  at : slice_get slots place ≡ Some slot
  from : file ≤ number
  it_is : In x (slot_copies t number slot.standing)

behind_more : (t : Turn) (file : ℕ) (standing : Standing) → file ≤ kept.file_behind t file standing
behind_more t file standing = by_test (kept.takes_file t standing) (λ c. rw c (omega arith)) (λ c. rw c (omega arith))

in_slots : (t : Turn) (file : ℕ) (slots : List Slot) (x : FileCopy) → In x (slots_copies t file slots) → InSlots t file slots x
in_slots t file [] x h = absurd h
in_slots t file (s ∷ slots) x h =
    by (in_either x (slot_copies t file s.standing) (slots_copies t (kept.file_behind t file s.standing) slots) h)
    (in_slots t (kept.file_behind t file s.standing) slots x)
  where
    by : In x (slot_copies t file s.standing) ⊎ In x (slots_copies t (kept.file_behind t file s.standing) slots) →
        (In x (slots_copies t (kept.file_behind t file s.standing) slots) → InSlots t (kept.file_behind t file s.standing) slots x) →
        InSlots t file (s ∷ slots) x
    by (inl a) rest = record { place = 0; slot = s; number = file; at = refl; from = omega arith; it_is = a }
    by (inr b) rest =
        let r = rest b in record {
          place = suc r.place;
          slot = r.slot;
          number = r.number;
          at = r.at;
          from = (let p = r.from in let q = behind_more t file s.standing in omega (arith, p, q));
          it_is = r.it_is;
        }

record InIndexes (force : List Kept) (moment : ℤ) (file : ℕ) (is : List Index) (x : FileCopy) : Type 0 where
  index : Index
  number : ℕ
  there : In index is
  from : file ≤ number
  it_is : In x (index_copies force moment number index)

in_indexes : (force : List Kept) (moment : ℤ) (file : ℕ) (is : List Index) (x : FileCopy) → In x (all_copies force moment file is) →
    InIndexes force moment file is x
in_indexes force moment file [] x h = absurd h
in_indexes force moment file (i ∷ is) x h =
    let next = file + files_taken force moment i in
    by (in_either x (index_copies force moment file i) (all_copies force moment next is) h) (in_indexes force moment next is x)
  where
    by : In x (index_copies force moment file i) ⊎ In x (all_copies force moment (file + files_taken force moment i) is) →
        (In x (all_copies force moment (file + files_taken force moment i) is) →
        InIndexes force moment (file + files_taken force moment i) is x) → InIndexes force moment file (i ∷ is) x
    by (inl a) rest = record { index = i; number = file; there = inl refl; from = omega arith; it_is = a }
    by (inr b) rest =
        let r = rest b in record {
          index = r.index;
          number = r.number;
          there = inr r.there;
          from = (let p = r.from in omega (arith, p));
          it_is = r.it_is;
        }

-- ---- where a bucket behind the turn comes from

pub record TurnedAt (t : Turn) (file place : ℕ) (slots : List Slot) (new : Slot) : Type 0 where
  pub slot : Slot
  pub number : ℕ
  pub at : slice_get slots place ≡ Some slot
  pub it_is : new ≡ record { events = slot.events; standing = kept.turned t number slot.standing }
  pub from : file ≤ number
  pub copied : (x : FileCopy) → In x (slot_copies t number slot.standing) → In x (slots_copies t file slots)

turned_at : (t : Turn) (file place : ℕ) (slots : List Slot) (new : Slot) → slice_get (kept.all_turned t file slots) place ≡ Some new →
    TurnedAt t file place slots new
turned_at t file place [] new e = absurd (none_some e)
turned_at t file zero (s ∷ slots) new e = record {
  slot = s;
  number = file;
  at = refl;
  it_is = sym (some_same e);
  from = omega arith;
  copied = λ x i. in_left x (slot_copies t file s.standing) (slots_copies t (kept.file_behind t file s.standing) slots) i;
}
turned_at t file (suc place) (s ∷ slots) new e =
    let r = turned_at t (kept.file_behind t file s.standing) place slots new e in record {
      slot = r.slot;
      number = r.number;
      at = r.at;
      it_is = r.it_is;
      from = (let p = r.from in let q = behind_more t file s.standing in omega (arith, p, q));
      copied = λ x i. in_right x (slot_copies t file s.standing) (slots_copies t (kept.file_behind t file s.standing) slots) (r.copied x i);
    }

pub record IndexTurned (force : List Kept) (moment : ℤ) (file : ℕ) (name : List ℕ) (is : List Index) (new : Index) : Type 0 where
  pub index : Index
  pub number : ℕ
  pub found : find index_name name is ≡ Some index
  pub it_is : new ≡ turned_index force moment number index
  pub from : file ≤ number
  pub copied : (x : FileCopy) → In x (index_copies force moment number index) → In x (all_copies force moment file is)

index_turned : (force : List Kept) (moment : ℤ) (file : ℕ) (name : List ℕ) (is : List Index) (new : Index) →
    find index_name name (all_turned force moment file is) ≡ Some new →
    IndexTurned force moment file name is new
index_turned force moment file name [] new e = absurd (none_some e)
index_turned force moment file name (i ∷ is) new e =
    by_test (bytes_eq i.name name) (λ t. here t (some_same (rw t at e)))
    (λ t. behind t (index_turned force moment (file + files_taken force moment i) name is new (rw t at e)))
  where
    here : bytes_eq i.name name ≡ true → turned_index force moment file i ≡ new → IndexTurned force moment file name (i ∷ is) new
    here t q = record {
      index = i;
      number = file;
      found = rw t refl;
      it_is = sym q;
      from = omega arith;
      copied = λ x k. in_left x (index_copies force moment file i) (all_copies force moment (file + files_taken force moment i) is) k;
    }

    behind : bytes_eq i.name name ≡ false → IndexTurned force moment (file + files_taken force moment i) name is new →
        IndexTurned force moment file name (i ∷ is) new
    behind t r = record {
      index = r.index;
      number = r.number;
      found = rw t r.found;
      it_is = r.it_is;
      from = (let p = r.from in omega (arith, p));
      copied = λ x k. in_right x (index_copies force moment file i) (all_copies force moment (file + files_taken force moment i) is)
          (r.copied x k);
    }

-- a bucket of the catalog behind the turn
record IsTicked (force : List Kept) (moment : ℤ) (s : Catalog) (name : List ℕ) (id : ℕ) (new : Slot) : Type 0 where
  index : Index
  slot : Slot
  number : ℕ
  found : find index_name name s.indexes ≡ Some index
  in_it : slice_get index.slots id ≡ Some slot
  at : slot_at s name id ≡ Some slot
  it_is : new ≡ record { events = slot.events; standing = kept.turned (turn_in force moment index) number slot.standing }
  from : s.next_file ≤ number
  copied : (x : FileCopy) → In x (slot_copies (turn_in force moment index) number slot.standing) →
      In x (all_copies force moment s.next_file s.indexes)

ticked : (force : List Kept) (moment : ℤ) (s : Catalog) (name : List ℕ) (id : ℕ) (new : Slot) →
    slot_at (tick force moment s) name id ≡ Some new → IsTicked force moment s name id new
ticked force moment s name id new e =
    let found = slot_found (tick force moment s).indexes name id new e in
    let i = index_turned force moment s.next_file name s.indexes found.0 found.1.0 in
    let r = turned_at (turn_in force moment i.index) i.number id i.index.slots new (ap (λ (x : Index). slice_get x.slots id) (sym i.it_is)
    ∙ found.1.1) in
    record {
      index = i.index;
      slot = r.slot;
      number = r.number;
      found = i.found;
      in_it = r.at;
      at = ap (λ (o : Option Index). slice_get (unwrap_or o (fresh_index name)).slots id) i.found ∙ r.at;
      it_is = r.it_is;
      from = (let p = i.from in let q = r.from in omega (arith, p, q));
      copied = λ x k. i.copied x (r.copied x k);
    }

-- ---- the turn

in_all : {X : Type 0} (P : X → Type 0) (x : X) (xs : List X) → In x xs → AllByRecursion P xs → P x
in_all P x [] i h = absurd i
in_all P x (y ∷ xs) (inl e) h = subst P e h.0
in_all P x (y ∷ xs) (inr i) h = in_all P x xs i h.1

all_from : {X : Type 0} (P : X → Type 0) (xs : List X) → ((x : X) → In x xs → P x) → AllByRecursion P xs
all_from P [] k = tt
all_from P (x ∷ xs) k = (k x (inl refl), all_from P xs (λ y i. k y (inr i)))

-- a bucket of an index that is seen is one of the catalog
was_seen : (b : Bool) (name : List ℕ) (o : Option Index) (i : Index) (j : ℕ) (slot : Slot) → or_fresh b name o ≡ Some i →
    slice_get i.slots j ≡ Some slot → o ≡ Some i
was_seen b name (Some k) i j slot e p = e
was_seen true name None i j slot e p = absurd (none_some (ap (λ (x : Index). slice_get x.slots j) (some_same e) ∙ p))
was_seen false name None i j slot e p = absurd (none_some e)

record InLeft (force : List Kept) (moment : ℤ) (is : List Index) (x : File) : Type 0 where
  index : Index
  there : In index is
  it_is : In x (left_files (turn_in force moment index) (buckets index.slots))

in_views_left : (force : List Kept) (moment : ℤ) (is : List Index) (x : File) → In x (views_left moment (seen force is)) →
    InLeft force moment is x
in_views_left force moment [] x h = absurd h
in_views_left force moment (i ∷ is) x h =
    by (in_either x (left_files (turn_in force moment i) (buckets i.slots)) (views_left moment (seen force is)) h)
    (in_views_left force moment is x)
  where
    by : In x (left_files (turn_in force moment i) (buckets i.slots)) ⊎ In x (views_left moment (seen force is)) →
        (In x (views_left moment (seen force is)) → InLeft force moment is x) → InLeft force moment (i ∷ is) x
    by (inl a) rest = record { index = i; there = inl refl; it_is = a }
    by (inr b) rest = let r = rest b in record { index = r.index; there = inr r.there; it_is = r.it_is }

module _ (force : List Kept) (moment : ℤ) (s : Catalog) (sound : AllSound s) (ascending : AreAscending index_name s.indexes)
    (after : AreAscending index_name (tick force moment s).indexes) (apart : AreApart s) (logs : AreApartFromLogs s) where
  abbrev made : List FileCopy
  made = all_copies force moment s.next_file s.indexes

  abbrev end : ℕ
  end = s.next_file + sum_by (files_taken force moment) s.indexes

  abbrev copied_to : Contents
  copied_to = with_copies made (contents_of s)

  between : AreBetween s.next_file end made
  between = all_between force moment s.next_file s.indexes sound

  -- a live bucket
  module _ (name : List ℕ) (id : ℕ) (slot : Slot) (b : Bucket) (at : slot_at s name id ≡ Some slot) (stands : slot.standing ≡ live b) where
    abbrev in_file : Filed
    in_file = record { file = b.file; events = slot.events }

    live_filed : IsFiled s in_file
    live_filed = record {
      name = name;
      id = id;
      slot = slot;
      at = at;
      has = subst (λ (x : Standing). In in_file (filed_by slot.events x)) (sym stands) (inl refl);
    }

    live_had : contents_of s b.file ≡ Some (records slot.events)
    live_had = bytes_there s in_file apart live_filed (live_apart s name id slot b logs at stands)

    live_below : b.file.number < s.next_file
    live_below = number_below s in_file apart live_filed

    live_len : b.bytes ≡ length (records slot.events)
    live_len =
        let found = slot_found s.indexes name id slot at in
        let i_sound : IsSound found.0 = all_found IsSound index_name name found.0 s.indexes sound found.1.0 in
        let one : IsLiveOf id slot.events b = subst (IsStandingOf found.0.name id slot.events) stands
        (sound_from_start found.0.name id found.0.slots slot i_sound found.1.1) in
        one.is_of.sums.bytes_are

  each_whole : AreWhole s.next_file (contents_of s) made
  each_whole x i =
      let r = in_indexes force moment s.next_file s.indexes x i in
      let t = turn_in force moment r.index in
      let q = in_slots t r.number r.index.slots x r.it_is in
      let i_sound : IsSound r.index = in_all IsSound r.index s.indexes r.there sound in
      let c = copy_of t r.index.name q.place q.number q.slot.events q.slot.standing x
      (sound_from_start r.index.name q.place r.index.slots q.slot i_sound q.at) q.it_is in
      let at : slot_at s r.index.name q.place ≡ Some q.slot =
      ap (λ (o : Option Index). slice_get (unwrap_or o (fresh_index r.index.name)).slots q.place)
      (in_found r.index s.indexes ascending r.there) ∙ q.at in
      let low = live_below r.index.name q.place q.slot c.bucket at c.stands in
      record {
        before = subst (λ (f : File). f.number < s.next_file) (sym c.from_is) low;
        new = (let n = c.number_is in let u = r.from in let v = q.from in omega (arith, n, u, v));
        bytes = records q.slot.events;
        there = ap (contents_of s) c.from_is ∙ live_had r.index.name q.place q.slot c.bucket at c.stands;
        len_is = c.len_is ∙ live_len r.index.name q.place q.slot c.bucket at c.stands;
      }

  kept_filed : (f : Filed) → IsFiled s f → is_meta_area f.file.area ≡ false → copied_to f.file ≡ Some (records f.events)
  kept_filed f h m = not_between s.next_file end made (contents_of s) f.file between (inl (number_below s f apart h))
      ∙ bytes_there s f apart h m

  -- a file behind the turn, with the bucket that it was of
  module _ (f : Filed) (h : IsFiled (tick force moment s) f) where
    abbrev k : IsTicked force moment s h.name h.id h.slot
    k = ticked force moment s h.name h.id h.slot h.at

    abbrev turn : Turn
    turn = turn_in force moment k.index

    in_turned : In f (filed_by k.slot.events (kept.turned turn k.number k.slot.standing))
    in_turned = subst (λ (x : Slot). In f (filed_slot x)) k.it_is h.has

    k_sound : IsStandingOf k.index.name h.id k.slot.events k.slot.standing
    k_sound = sound_from_start k.index.name h.id k.index.slots k.slot (all_found IsSound index_name h.name k.index s.indexes sound k.found)
        k.in_it

    came : In f (filed_by k.slot.events k.slot.standing) ⊎ IsNew turn k.number k.slot.events k.slot.standing f
    came = new_or_old turn k.index.name h.id k.number k.slot.events k.slot.standing f k_sound in_turned

    old_filed : In f (filed_by k.slot.events k.slot.standing) → IsFiled s f
    old_filed i = record { name = h.name; id = h.id; slot = k.slot; at = k.at; has = i }

    new_filed : IsNew turn k.number k.slot.events k.slot.standing f → copied_to f.file ≡ Some (records f.events)
    new_filed n =
        ap copied_to (sym n.to_is)
        ∙ copied_has s.next_file s.next_file end (contents_of s) (contents_of s) n.copy made between (λ file l. refl) each_whole
        (k.copied n.copy n.among)
        (records k.slot.events) (ap (contents_of s) n.from_is ∙ live_had h.name h.id k.slot n.bucket k.at n.stands) (n.len_is
        ∙ live_len h.name h.id k.slot n.bucket k.at n.stands)
        (subst (λ (x : File). x.number < s.next_file) (sym n.from_is) (live_below h.name h.id k.slot n.bucket k.at n.stands))
        ∙ ap (λ events. Some (records events)) (sym n.events_are)

    new_number : IsNew turn k.number k.slot.events k.slot.standing f → s.next_file ≤ f.file.number
    new_number n = subst (λ (x : File). s.next_file ≤ x.number) n.to_is (each_whole n.copy (k.copied n.copy n.among)).new

    each_filed : is_meta_area f.file.area ≡ false → copied_to f.file ≡ Some (records f.events)
    each_filed m = by came
      where
        by : In f (filed_by k.slot.events k.slot.standing) ⊎ IsNew turn k.number k.slot.events k.slot.standing f →
            copied_to f.file ≡ Some (records f.events)
        by (inl i) = kept_filed f (old_filed i) m
        by (inr n) = new_filed n

  -- a file that is done with
  module _ (i : Index) (j : ℕ) (slot : Slot) (x : File) (at : slot_at s i.name j ≡ Some slot)
      (found : find index_name i.name s.indexes ≡ Some i)
      (left : IsLeft (turn_in force moment i) slot.events slot.standing x) where
    gone : (f : Filed) → IsFiled (tick force moment s) f → f.file.number ≡ x.number → ⊥
    unfolding live_filed old_filed
    gone f h e = by (came f h)
      where
        low : x.number < s.next_file
        low = subst (λ (y : File). y.number < s.next_file) left.is_its (live_below i.name j slot left.bucket at left.stands)

        by : In f (filed_by (k f h).slot.events (k f h).slot.standing)
            ⊎ IsNew (turn f h) (k f h).number (k f h).slot.events (k f h).slot.standing f → ⊥
        by (inl old) =
            let was = old_filed f h old in
            let its = live_filed i.name j slot left.bucket at left.stands in
            let number : f.file.number ≡ left.bucket.file.number = e ∙ ap (λ (y : File). y.number) (sym left.is_its) in
            let one = one_bucket s f (in_file i.name j slot left.bucket at left.stands) apart was its number in
            let same_index : (k f h).index ≡ i = some_same (sym (k f h).found ∙ ap (λ (n : List ℕ). find index_name n s.indexes) one.names
            ∙ found) in
            let same_slot : (k f h).slot ≡ slot = some_same (sym (k f h).at ∙ ap (λ (n : List ℕ). slot_at s n h.id) one.names
            ∙ ap (slot_at s i.name) one.ids ∙ at) in
            let there : In f (filed_by slot.events (kept.turned (turn_in force moment i) (k f h).number slot.standing)) =
            subst (λ (y : Index). In f (filed_by slot.events (kept.turned (turn_in force moment y) (k f h).number slot.standing)))
            same_index
            (subst (λ (y : Slot). In f (filed_by y.events (kept.turned (turn f h) (k f h).number y.standing))) same_slot (in_turned f h)) in
            let a = left.moved (k f h).number f there in
            let b = (k f h).from in
            omega (arith, a, b, e, low)
        by (inr n) =
            let a = new_number f h n in
            omega (arith, a, e, low)

    done_with : IsDone (tick force moment s) x
    done_with =
        let low : x.number < s.next_file = subst (λ (y : File). y.number < s.next_file) left.is_its
        (live_below i.name j slot left.bucket at left.stands) in
        let area : is_meta_area x.area ≡ false = subst (λ (y : File). is_meta_area y.area ≡ false) left.is_its
        (live_apart s i.name j slot left.bucket logs at left.stands) in
        let end_is : (tick force moment s).next_file ≡ end = refl in
        record {
          apart = λ e. true_false (sym (ap is_meta_area e) ∙ area);
          taken = omega (arith, low, end_is);
          unused = sym (filed_count x.number (tick force moment s).indexes)
              ∙ none_counted x.number (filed (tick force moment s)) (λ f k e. gone f (in_filed (tick force moment s) f after k) e);
        }

  -- an index that is seen, and a bucket of it
  module _ (i : Index) (x : File) (there : In i (all_seen force s)) (j : ℕ) (slot : Slot) (at : slice_get i.slots j ≡ Some slot)
      (goes : In x (flat_map (leaving (turn_in force moment i)) (option_to_list (listed slot.standing)))) where
    seen_there : find index_name i.name (all_seen force s) ≡ Some i
    seen_there = in_found i (all_seen force s) (ascending_fresh (configured force) s.indexes ascending) there

    was_there : find index_name i.name s.indexes ≡ Some i
    was_there =
        was_seen (among (configured force) i.name) i.name (find index_name i.name s.indexes) i j slot
        (sym (find_fresh (configured force) s.indexes i.name) ∙ seen_there) at

    slot_there : slot_at s i.name j ≡ Some slot
    slot_there = ap (λ (o : Option Index). slice_get (unwrap_or o (fresh_index i.name)).slots j) was_there ∙ at

    its_left : IsLeft (turn_in force moment i) slot.events slot.standing x
    its_left =
        let i_sound : IsSound i = in_all IsSound i (all_seen force s) there (sound_fresh (configured force) s.indexes sound) in
        left_of (turn_in force moment i) i.name j slot.events slot.standing x (sound_from_start i.name j i.slots slot i_sound at) goes

    left_done : IsDone (tick force moment s) x
    left_done = done_with i j slot x slot_there was_there its_left

  each_left : (x : File) → In x (turn_all moment (shelved force s)).files → IsDone (tick force moment s) x
  each_left x h =
      let l = in_views_left force moment (all_seen force s) x
      (subst (In x) (ap (λ (t : HousekeepingResult). t.files) (turn_made force moment s)) h) in
      let t = turn_in force moment l.index in
      let b = from_flat (leaving t) x (buckets l.index.slots) l.it_is in
      let c = from_flat (λ (y : Slot). option_to_list (listed y.standing)) b.0 l.index.slots b.1.0 in
      let place = place_of c.0 l.index.slots c.1.0 in
      left_done l.index x l.there place.0 c.0 place.1 (in_flat (leaving t) b.0 x (option_to_list (listed c.0.standing)) c.1.1 b.1.1)

  pub turn_copied : (old : Contents) → HasNoneFrom s.next_file old → AreCopied force moment s old
  turn_copied old n =
      let are = copies_are force moment s sound in record {
        fit = subst (λ (xs : List FileCopy). AreFitCopies old (contents_of s) xs) (sym are)
            (fit_copies s.next_file old (contents_of s) (contents_of s) made n (λ file l. refl) each_whole);
        lead = subst (λ (xs : List FileCopy). Forgets (with_copies xs (contents_of s)) (contents_of (tick force moment s))) (sym are)
            (says_less copied_to (tick force moment s) after
            (λ file m later. (let l : end ≤ file.number = later in
            not_between s.next_file end made (contents_of s) file between (inr l) ∙ none_yet s file m (omega (arith, l))))
            each_filed);
        done = all_from (IsDone (tick force moment s)) (turn_all moment (shelved force s)).files each_left;
      }
