-- What an export of an index reads and writes, and what stays held.
use Rattle.std.proofs.Common.{◌≡◌, ℕ, suc, Bool, true, false, List, [], ◌∷◌, ◌++◌, length, take, refl, sym, ap, ◌∙◌, subst, inl, inr, arith}
use Rattle.std.proofs.lemmas.List.Elements.{Contains-append_right}
use Rattle.std.specs.Prelude.{Contains, Option, Some, None, Result, Ok, Err, IsErrOf, ◌↔◌, is_some, unwrap_or}
use Rattle.std.specs.List.{AllByRecursion, flat_map}
use Rattle.std.specs.Option.{option_map}
use Rattle.ix_base.specs.declared.events.Event.{Event}
use Rattle.ix_base.specs.declared.events.Range.{Range}
use Rattle.ix_base.specs.declared.files.File.{File}
use Rattle.ix_bucket.specs.Record.{records, IsInRange}
use Rattle.ix_disk.specs.Image.{Image, bytes_in, content, Stays}
use Rattle.ix_disk.specs.Moments.{ImagesStep}
use Rattle.ix_disk.specs.declared.disk.Disk.{Ghosts}
use Rattle.ix_disk.proofs.Runs.{still_all}
use Rattle.ix_export.specs.Stops.{StopsAt}
use Rattle.ix_export.specs.Faults.{OnDamaged}
use Rattle.ix_export.specs.Stored.{HasEvents, HaveEvents, joined}
use Rattle.ix_export.specs.declared.fault.BucketFault.{BucketFault}
use Rattle.ix_export.specs.declared.fault.BucketFault.TheVariants as buckets_faults
use Rattle.ix_items.specs.declared.items.Bucket.{Bucket}
use Rattle.ix_life.specs.declared.views.IndexView.{IndexView}
use Rattle.ix_life.specs.declared.views.View.{View}
use Rattle.ix_log.specs.Log.{file_of}
use Rattle.ix_log.proofs.Elsewhere.{at_end_stays}
use Rattle.ix_manifest.specs.Book.{NamedItems}
use Rattle.ix_manifest.specs.Root.{roots}
use Rattle.ix_commit.specs.Contents.{Contents, filling, HasFilling}
use Rattle.ix_commit.specs.Snapshot.{Snapshot, IsCommitted}
use Rattle.ix_commit.specs.declared.committer.Committer.{Committer}
use Rattle.ix_model.specs.Buckets.{Standing, live, frozen, Slot, Index, listed, buckets}
use Rattle.ix_model.specs.Given.{Chooser}
use Rattle.ix_model.specs.Shown.{configured, all_indexes, index_view, view}
use Rattle.ix_model.specs.State.{State, Catalog, index_name, fresh_index, slots_in}
use Rattle.ix_model.specs.Step.{state_after}
use Rattle.ix_model.specs.Sums.{IsStandingOf, AreSoundFrom, IsSound}
use Rattle.ix_model.specs.declared.commands.TimedCommand.{TimedCommand}
use Rattle.ix_model.proofs.Ascending.{in_order_after}
use Rattle.ix_model.proofs.Named.{all_found}
use Rattle.ix_model.proofs.Placing.{In}
use Rattle.ix_model.proofs.Renewing.{apart_after}
use Rattle.ix_model.proofs.Stepping.{sound_after}
use Rattle.ix_catalog.specs.Lists.{find}
use Rattle.ix_catalog.specs.Shelves as shelves
use Rattle.ix_catalog.specs.Shelves.{buckets_in, view_name}
use Rattle.ix_model.specs.Contents.{Filed, archived, in_bucket, filed_by, filed_slot, filed_index, is_meta_area, contents_of}
use Rattle.ix_model.specs.Snap.{snapshot_of}
use Rattle.ix_model.proofs.Areas.{IsApartFromLogs, SlotApart, IndexApart, apart_from_logs}
use Rattle.ix_model.proofs.Filing.{in_right, in_flat, found_in, in_filed, bytes_there}
use Rattle.ix_model.proofs.Listing.{among, or_fresh, find_fresh}
use Rattle.ix_model.proofs.Names.{find_map}
use Rattle.ix_store.specs.Exporting.{HasBadRecord, is_seen, listed_in, listed_events, exported, HaveRecords}
use Rattle.ix_store.specs.Faults.{export_fault_of}
use Rattle.ix_store.specs.Holding.{Represents, IsUnchanged}
use Rattle.ix_store.specs.declared.fault.ExportFault.{ExportFault}
use Rattle.ix_store.specs.declared.fault.ExportFault.TheVariants as exports
use Rattle.ix_store.specs.declared.store.Store.{Store}
use Rattle.ix_store.proofs.Booked.{left_contents}
use Rattle.ix_store.proofs.Counted.{take_whole}
use Rattle.ix_store.proofs.Joining.{committed_same, staged_same}

true_false : true ≡ false → ⊥
true_false e = cc

none_some : {X : Type 0} {x : X} → None ≡ Some x → ⊥
none_some e = cc

some_same : {X : Type 0} {x y : X} → Some x ≡ Some y → x ≡ y
some_same e = cc

all_in : {X : Type 0} (P : X → Type 0) (x : X) (xs : List X) → AllByRecursion P xs → In x xs → P x
all_in P x [] all here = absurd here
all_in P x (y ∷ xs) all (inl e) = subst P e all.0
all_in P x (y ∷ xs) all (inr here) = all_in P x xs all.1 here

-- ---- the buckets of an index with their events

abbrev one_list : List Event → Option Bucket → List (List Event)
one_list events None = []
one_list events (Some b) = events ∷ []

abbrev pub lists : List Slot → List (List Event)
lists slots = flat_map (λ (s : Slot). one_list s.events (listed s.standing)) slots

pub joined_lists : (slots : List Slot) → joined (lists slots) ≡ flat_map listed_events slots
joined_lists [] = refl
joined_lists (s ∷ slots) = by (listed s.standing) refl (joined_lists slots)
  where
    by : (o : Option Bucket) → listed s.standing ≡ o → joined (lists slots) ≡ flat_map listed_events slots →
        joined (lists (s ∷ slots)) ≡ flat_map listed_events (s ∷ slots)
    by None e rest = rw e rest
    by (Some b) e rest = rw e (ap (λ (l : List Event). s.events ++ l) rest)

have_lists : (image : Image) (slots : List Slot) → ((s : Slot) (b : Bucket) → In s slots → listed s.standing ≡ Some b →
    HasEvents image b s.events) → HaveEvents image (buckets slots) (lists slots)
have_lists image [] each = tt
have_lists image (s ∷ slots) each = by (listed s.standing) refl (have_lists image slots (λ t b here is. each t b (inr here) is))
  where
    by : (o : Option Bucket) → listed s.standing ≡ o → HaveEvents image (buckets slots) (lists slots) →
        HaveEvents image (buckets (s ∷ slots)) (lists (s ∷ slots))
    by None e rest = rw e rest
    by (Some b) e rest = rw e (each s b (inl refl) e, rest)

-- ---- a bucket and its file

abbrev filed_as : List Event → Bucket → Filed
filed_as events b = record { file = b.file; events = events }

thawed_here : (events : List Event) (o : Option Bucket) (b : Bucket) → o ≡ Some b → In (filed_as events b) (in_bucket events o)
thawed_here events None b e = absurd (none_some e)
thawed_here events (Some a) b e = inl (ap (filed_as events) (some_same e))

filed_here : (events : List Event) (standing : Standing) (b : Bucket) → listed standing ≡ Some b →
    In (filed_as events b) (filed_by events standing)
filed_here events (live a) b e = inl (ap (filed_as events) (some_same e))
filed_here events (frozen x other) b e = in_right (filed_as events b) (archived events x.archive) (in_bucket events other)
    (thawed_here events other b e)

abbrev IsSoundSlot : List ℕ → Slot → Type 0
IsSoundSlot name s = (k : ℕ) × IsStandingOf name k s.events s.standing

sound_of : (name : List ℕ) (id : ℕ) (slots : List Slot) (s : Slot) → AreSoundFrom name id slots → In s slots → IsSoundSlot name s
sound_of name id [] s sound here = absurd here
sound_of name id (t ∷ slots) s sound (inl e) = (id, subst (λ (u : Slot). IsStandingOf name id u.events u.standing) e sound.0)
sound_of name id (t ∷ slots) s sound (inr here) = sound_of name (suc id) slots s sound.1 here

size_of : (name : List ℕ) (k : ℕ) (events : List Event) (standing : Standing) (b : Bucket) → IsStandingOf name k events standing →
    listed standing ≡ Some b → b.bytes ≡ length (records events)
size_of name k events (live a) b sound e = ap (λ (x : Bucket). x.bytes) (sym (some_same e)) ∙ sound.is_of.sums.bytes_are
size_of name k events (frozen x None) b sound e = absurd (none_some e)
size_of name k events (frozen x (Some a)) b sound e = ap (λ (y : Bucket). y.bytes) (sym (some_same e)) ∙ sound.1.is_of.sums.bytes_are

no_log : (name : List ℕ) (k : ℕ) (events : List Event) (standing : Standing) (b : Bucket) → IsStandingOf name k events standing →
    IsApartFromLogs standing → listed standing ≡ Some b →
    is_meta_area b.file.area ≡ false
no_log name k events (live a) b sound apart e = ap (λ (x : Bucket). is_meta_area x.file.area) (sym (some_same e)) ∙ apart
no_log name k events (frozen x None) b sound apart e = absurd (none_some e)
no_log name k events (frozen x (Some a)) b sound apart e = ap (λ (y : Bucket). is_meta_area y.file.area) (sym (some_same e))
    ∙ ap is_meta_area sound.1.file_is

module _ (choose : Chooser) (h : List TimedCommand) (image : Image)
    (filled : HasFilling (filling (contents_of (state_after choose h).catalog)) image) (ranged : HaveRecords (state_after choose h)) where
  abbrev cat : Catalog
  cat = (state_after choose h).catalog

  has_events : (index : List ℕ) (i : Index) → find index_name index cat.indexes ≡ Some i → (s : Slot) (b : Bucket) → In s i.slots →
      listed s.standing ≡ Some b → HasEvents image b s.events
  has_events index i found s b here is =
      let sound = sound_of i.name 0 i.slots s (all_found IsSound index_name index i cat.indexes (sound_after choose h) found) here in
      let apart = all_in SlotApart s i.slots (all_found IndexApart index_name index i cat.indexes (apart_from_logs choose h).each found)
      here in
      let place = in_filed cat (filed_as s.events b) (in_order_after choose h).indexes
      (in_flat filed_index i (filed_as s.events b) cat.indexes (found_in index_name index i cat.indexes found)
      (in_flat filed_slot s (filed_as s.events b) i.slots here (filed_here s.events s.standing b is))) in
      let there = bytes_there cat (filed_as s.events b) (apart_after choose h) place
      (no_log i.name sound.0 s.events s.standing b sound.1 apart is) in
      let stands : filling (contents_of cat) b.file ≡ records s.events = ap content there in
      let size = size_of i.name sound.0 s.events s.standing b sound.1 is in
      record {
        in_range = all_in (λ (t : Slot). AllByRecursion IsInRange t.events) s i.slots
            (all_found (λ (j : Index). AllByRecursion (λ (t : Slot). AllByRecursion IsInRange t.events) j.slots) index_name index i
            cat.indexes ranged found) here;
        size = sym size;
        spelled = ap (λ (n : ℕ). take n (bytes_in image b.file)) size
            ∙ subst (λ (bytes : List ℕ). take (length bytes) (bytes_in image b.file) ≡ bytes) stands (filled.begins b.file);
      }

  pub have_events : (index : List ℕ) → HaveEvents image (listed_in (state_after choose h) index) (lists (slots_in cat.indexes index))
  have_events index = by (find index_name index cat.indexes) refl
    where
      stand : (o : Option Index) → find index_name index cat.indexes ≡ o →
          HaveEvents image (buckets (unwrap_or o (fresh_index index)).slots) (lists (unwrap_or o (fresh_index index)).slots) →
          HaveEvents image (listed_in (state_after choose h) index) (lists (slots_in cat.indexes index))
      stand o e have = subst (λ (p : Option Index). HaveEvents image (buckets (unwrap_or p (fresh_index index)).slots)
          (lists (unwrap_or p (fresh_index index)).slots)) (sym e) have

      by : (o : Option Index) → find index_name index cat.indexes ≡ o →
          HaveEvents image (listed_in (state_after choose h) index) (lists (slots_in cat.indexes index))
      by None e = stand None e tt
      by (Some i) e = stand (Some i) e (have_lists image i.slots (has_events index i e))

-- ---- what is seen of an index

or_slots : (b : Bool) (name : List ℕ) (o : Option Index) (i : Index) → or_fresh b name o ≡ Some i →
    i.slots ≡ (unwrap_or o (fresh_index name)).slots
or_slots b name (Some j) i e = ap (λ (x : Index). x.slots) (sym (some_same e))
or_slots true name None i e = ap (λ (x : Index). x.slots) (sym (some_same e))
or_slots false name None i e = absurd (none_some e)

slots_of : (m : State) (index : List ℕ) (i : Index) → find index_name index (all_indexes m) ≡ Some i →
    i.slots ≡ slots_in m.catalog.indexes index
slots_of m index i e =
    or_slots (among (configured m.force) index) index (find index_name index m.catalog.indexes) i
    (sym (find_fresh (configured m.force) m.catalog.indexes index) ∙ e)

abbrev pub buckets_of : IndexView → List Bucket
buckets_of seen = seen.buckets

module _ (m : State) (seen : View) (index : List ℕ) (is : seen ≡ view m) where
  abbrev found : Option (List Bucket)
  found = option_map buckets_of (find view_name index seen.indexes)

  found_is : found ≡ option_map buckets_of (option_map (index_view m.force) (find index_name index (all_indexes m)))
  found_is = ap (λ (l : List IndexView). option_map buckets_of (find view_name index l)) (ap (λ (v : View). v.indexes) is)
      ∙ ap (option_map buckets_of) (find_map index_name view_name (index_view m.force) (λ i. refl) index (all_indexes m))

  pub seen_buckets : (bs : List Bucket) → Some bs ≡ found → (bs ≡ listed_in m index) × (is_seen m index ≡ true)
  seen_buckets bs e = by (find index_name index (all_indexes m)) refl
    where
      by : (o : Option Index) → find index_name index (all_indexes m) ≡ o → (bs ≡ listed_in m index) × (is_seen m index ≡ true)
      by None p = absurd (none_some (sym (e ∙ found_is ∙ ap
          (λ (o : Option Index). option_map buckets_of (option_map (index_view m.force) o)) p)))
      by (Some i) p = (
        some_same (e ∙ found_is ∙ ap (λ (o : Option Index). option_map buckets_of (option_map (index_view m.force) o)) p)
            ∙ ap buckets (slots_of m index i p),
        ap (λ (o : Option Index). is_some o) p,
      )

  pub seen_not : None ≡ found → is_seen m index ≡ false
  seen_not e = by (find index_name index (all_indexes m)) refl
    where
      by : (o : Option Index) → find index_name index (all_indexes m) ≡ o → is_seen m index ≡ false
      by None p = ap (λ (o : Option Index). is_some o) p
      by (Some i) p = absurd (none_some (e ∙ found_is ∙ ap (λ (o : Option Index). option_map buckets_of (option_map (index_view m.force) o))
          p))

-- ---- a store with nothing staged

module _ {D : Type 0} (g : Ghosts D) {M : Type 0} (fits : NamedItems → Type 0) (holds : Chooser → List TimedCommand → M →
    Type 0) (choose : Chooser) (h : List TimedCommand) (base : ℕ) (store : Store M) (disk : D) where
  filled_with : (hold : Represents g fits holds choose h base (length h) store disk) (image : Image) → g.may_leave disk image →
      HasFilling (filling (contents_of (state_after choose h).catalog)) image
  filled_with hold image may = subst (λ (c : Contents). HasFilling (filling c) image) is (hold.committed.contents image may)
    where
      is : hold.old.contents ≡ contents_of (state_after choose h).catalog
      is = hold.staged.old_is.contents ∙ ap (λ (l : List TimedCommand). (snapshot_of choose l).contents) (take_whole h)
          ∙ left_contents choose h

  -- whatever is so of the events of the buckets is so of what is exported
  pub so_of_exported : (index : List ℕ) (seen : View) (bs : List Bucket) (image : Image) (Q : List Event → Type 0) →
      Represents g fits holds choose h base (length h) store disk → HaveRecords (state_after choose h) →
      g.may_leave disk image → seen ≡ view (state_after choose h) → Some bs ≡ option_map buckets_of (find view_name index seen.indexes) →
      ((all : List (List Event)) → HaveEvents image bs all → Q (joined all)) →
      Q (exported (state_after choose h) index)
  so_of_exported index seen bs image Q hold ranged may is found so =
      let slots = slots_in (state_after choose h).catalog.indexes index in
      subst Q (joined_lists slots) (so (lists slots)
      (subst (λ (l : List Bucket). HaveEvents image l (lists slots)) (sym (seen_buckets (state_after choose h) seen index is bs found).0)
      (have_events choose h image (filled_with hold image may) ranged index)))

-- ---- what stays held

module _ {D : Type 0} (g : Ghosts D) (fits : NamedItems → Type 0) where
  pub committed_stays : (committer : Committer) (old new : D) (s : Snapshot) → ImagesStep g old new Stays →
      IsCommitted g fits committer old s →
      IsCommitted g fits committer new s
  committed_stays committer old new s stays committed = record {
    checkpoints = committed.checkpoints;
    number = committed.number;
    root_file = committed.root_file;
    root = at_end_stays g old new committer.root (roots committed.checkpoints) Stays
        (λ a b is. ap (λ (i : Image). i (file_of committer.root)) is)
        stays committed.root;
    file = committed.file;
    bodies = committed.bodies;
    end = at_end_stays g old new committer.log committed.bodies Stays (λ a b is. ap (λ (i : Image). i (file_of committer.log)) is) stays
        committed.end;
    replayed = committed.replayed;
    contents = still_all g old new (HasFilling (filling s.contents)) stays committed.contents;
    apart = committed.apart;
    free = committed.free;
  }

  pub holds_still : {M : Type 0} (holds : Chooser → List TimedCommand → M →
      Type 0) (choose : Chooser) (h : List TimedCommand) (base k : ℕ) (before store : Store M) (old new : D) → ImagesStep g old new Stays →
      IsUnchanged before store →
      Represents g fits holds choose h base k before old → Represents g fits holds choose h base k store new
  holds_still holds choose h base k before store old new stays same hold = record {
    old = hold.old;
    committed = committed_same g fits before.committer store.committer new hold.old same.committer.logs
        (committed_stays before.committer old new hold.old stays hold.committed);
    staged = staged_same fits holds choose h base k before store hold.old same hold.staged;
  }

-- ---- faults

pub export_damaged : {T : Type 0} (fault : BucketFault) (P : File → ℕ → Type 0) (file : File) (at : ℕ) (shown : ExportFault) →
    shown ≡ export_fault_of fault →
    ◌≡◌ {A = Result T ExportFault} (Err shown) (Err (exports.Damaged file at)) → OnDamaged fault P → P file at
export_damaged buckets_faults.Disk P file at shown is e so = absurd cc
export_damaged (buckets_faults.Damaged f a) P file at shown is e so =
    let both : exports.Damaged f a ≡ exports.Damaged file at = cc in
    let files : f ≡ file = cc in
    let places : a ≡ at = cc in
    subst (λ (x : File). P x at) files (subst (P f) places so)
export_damaged buckets_faults.Output P file at shown is e so = absurd cc
export_damaged buckets_faults.NoMemory P file at shown is e so = absurd cc

-- the bucket at which an export stops is one that is shown of the index
shown_of : (seen : Option IndexView) (bs : List Bucket) → Some bs ≡ option_map buckets_of seen → bs ≡ shelves.buckets_of seen
shown_of None bs e = absurd (none_some (sym e))
shown_of (Some v) bs e = some_same e

stands_first : {X : Type 0} (x : X) (xs : List X) → Contains (x ∷ xs) x
stands_first x xs = (0, omega arith, refl)

pub bad_stop : (seen : View) (index : List ℕ) (range : Range) (image : Image) (bs : List Bucket) (file : File) (at : ℕ)
    (given given' : Option (List ℕ)) → Some bs ≡ option_map buckets_of (find view_name index seen.indexes) →
    StopsAt range image bs file at given given' → HasBadRecord (buckets_in index seen.indexes) image file at
bad_stop seen index range image bs file at given given' found stops =
    record {
      bucket = stops.bucket;
      is_shown = subst (λ (l : List Bucket). Contains l stops.bucket)
          (sym stops.buckets_are ∙ shown_of (find view_name index seen.indexes) bs found)
          (Contains-append_right stops.earlier (stops.bucket ∷ stops.later) stops.bucket (stands_first stops.bucket stops.later));
      file_is = stops.file_is;
      events = stops.events;
      damaged = stops.damaged;
    }

pub unknown_so : (seen : Bool) (answer : Result ℕ ExportFault) → seen ≡ false → IsErrOf answer exports.UnknownIndex →
    IsErrOf answer exports.UnknownIndex ↔ (seen ≡ false)
unknown_so seen answer unseen is = (λ _. unseen, λ _. is)

pub unknown_not : (seen : Bool) (answer : Result ℕ ExportFault) → seen ≡ true → (IsErrOf answer exports.UnknownIndex → ⊥) →
    IsErrOf answer exports.UnknownIndex ↔ (seen ≡ false)
unknown_not seen answer sees not = (λ is. absurd (not is), λ unseen. absurd (true_false (sym sees ∙ unseen)))

pub count_known : (count : ℕ) → IsErrOf {T = ℕ} {E = ExportFault} (Ok count) exports.UnknownIndex → ⊥
count_known count is = cc

pub fault_known : (fault : BucketFault) (shown : ExportFault) → shown ≡ export_fault_of fault →
    IsErrOf {T = ℕ} {E = ExportFault} (Err shown) exports.UnknownIndex → ⊥
fault_known buckets_faults.Disk shown is e = cc
fault_known (buckets_faults.Damaged file at) shown is e = cc
fault_known buckets_faults.Output shown is e = cc
fault_known buckets_faults.NoMemory shown is e = cc
