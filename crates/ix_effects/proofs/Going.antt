-- No file of a bucket or an archive goes but those that a turn is done with: files are counted on
-- both sides, each by a weight.
use Rattle.std.proofs.Common.{◌≡◌, ◌≤◌, ◌<◌, ◌+◌, ℕ, zero, suc, ℤ, Bool, true, false, List, [], ◌∷◌, ◌++◌, length, map, refl, sym, ap, ◌∙◌}
use Rattle.std.proofs.Common.{subst, arith, inl, inr}
use Rattle.std.specs.Prelude.{Option, Some, None, ◌⊎◌, Contains, if◌then◌else◌, is_some, fold, nat_le, unwrap_or, option_to_list}
use Rattle.std.specs.List.{AllByRecursion, flat_map, sum_by}
use Rattle.std.proofs.lemmas.Grind.{flat_map-append}
use Rattle.std.proofs.lemmas.List.{append-nil}
use Rattle.std.proofs.lemmas.List.Sums.{sum_by-cons, sum_by-append}
use Rattle.ix_base.specs.declared.events.Event.{Event}
use Rattle.ix_base.specs.declared.events.Routed.{Routed}
use Rattle.ix_base.specs.declared.events.Routed.TheVariants.{To, Null}
use Rattle.ix_base.specs.declared.files.Area.TheVariants as areas
use Rattle.ix_base.specs.declared.files.File.{File}
use Rattle.ix_disk.specs.Files.{is_same, same_file}
use Rattle.ix_items.specs.declared.items.Bucket.{Bucket}
use Rattle.ix_items.specs.declared.items.Entry.{Entry}
use Rattle.ix_items.specs.declared.items.Kept.{Kept}
use Rattle.ix_items.specs.declared.items.Rule.{Rule}
use Rattle.ix_life.specs.Housekeeping.{megabytes}
use Rattle.ix_life.specs.Placing.{is_open}
use Rattle.ix_life.specs.declared.limits.Limits.{Limits}
use Rattle.ix_model.specs.Buckets.{Standing, live, frozen, Slot, Index, listed, buckets}
use Rattle.ix_model.specs.Contents.{Filed, archived, in_bucket, filed_by, filed_slot, filed_index, filed, bytes_of}
use Rattle.ix_model.specs.Done.{is_filed, AreLetGo}
use Rattle.ix_model.specs.Given.{home, limits}
use Rattle.ix_model.specs.Keeping as kept
use Rattle.ix_model.specs.Keeping.{turned_by, closed_slot, thawing, thawed_by, thawed_slot}
use Rattle.ix_model.specs.Placed.{change_live, rolled_slot, filled_slot, made_slot, roll, placed}
use Rattle.ix_model.specs.Shelved.{shelved}
use Rattle.ix_model.specs.Shown.{configured, with_fresh, index_view}
use Rattle.ix_model.specs.State.{Catalog, index_name, fresh_index}
use Rattle.ix_model.specs.Step as machine
use Rattle.ix_model.specs.Step.{filled, index_at, deal_to, deal, deal_all, turn_in, turned_index, files_taken, all_turned, tick}
use Rattle.ix_model.specs.Step.{closed_index, thawed_index}
use Rattle.ix_model.specs.Sums.{IsStandingOf, AreSoundFrom, IsSound}
use Rattle.ix_model.proofs.Balanced.{sum_update_same, change_same}
use Rattle.ix_model.proofs.Counting.{live_is}
use Rattle.ix_model.proofs.Freezing.{flat_sum}
use Rattle.ix_model.proofs.Named.{by_test, sum_change, sum_put, change_none, all_found}
use Rattle.ix_model.proofs.Placing.{GoesInto, GoesBehind, goes}
use Rattle.ix_model.proofs.Stepping.{AllSound, keeps_sound}
use Rattle.ix_model.proofs.TurnedCopies.{leaving}
use Rattle.ix_model.proofs.TurnedIndexes.{views_left, seen, all_seen, turn_made, change_nothing}
use Rattle.ix_model.proofs.TurnedShelves.{live_rule}
use Rattle.ix_catalog.specs.Buckets.{Turn, closed, is_among, named, rolled, rule_of, staying, with_event}
use Rattle.ix_catalog.specs.Lists.{find, update, change, insert, change_or_insert, stands_before}
use Rattle.ix_catalog.specs.Shelves.{is_live}
use Rattle.ix_catalog.specs.Turning.{cools, leaves_by, turn_all}
use Rattle.ix_catalog.specs.declared.housekeeping_result.HousekeepingResult.{HousekeepingResult}

-- a weight for each file
abbrev Weight : Type 0
Weight = File → ℕ

module _ (w : Weight) where
  abbrev archive_weight : Option ℕ → ℕ
  archive_weight None = 0
  archive_weight (Some number) = w (record { area = areas.Frozen; number = number })

  abbrev bucket_weight : Option Bucket → ℕ
  bucket_weight None = 0
  bucket_weight (Some b) = w b.file

  abbrev standing_weight : Standing → ℕ
  standing_weight (live b) = w b.file
  standing_weight (frozen e other) = archive_weight e.archive + bucket_weight other

  abbrev slot_weight : Slot → ℕ
  slot_weight s = standing_weight s.standing

  abbrev index_weight : Index → ℕ
  index_weight i = sum_by slot_weight i.slots

  abbrev weight : Catalog → ℕ
  weight s = sum_by index_weight s.indexes

  -- ---- what is filed weighs as much

  abbrev of_file : Filed → ℕ
  of_file f = w f.file

  one_more : (f : Filed) → sum_by of_file (f ∷ []) ≡ w f.file
  one_more f = let s = sum_by-cons of_file f [] in omega (arith, s)

  archived_same : (events : List Event) (archive : Option ℕ) → sum_by of_file (archived events archive) ≡ archive_weight archive
  archived_same events None = refl
  archived_same events (Some number) = one_more (record { file = record { area = areas.Frozen; number = number }; events = events })

  bucket_same : (events : List Event) (b : Option Bucket) → sum_by of_file (in_bucket events b) ≡ bucket_weight b
  bucket_same events None = refl
  bucket_same events (Some b) = one_more (record { file = b.file; events = events })

  standing_same : (events : List Event) (standing : Standing) → sum_by of_file (filed_by events standing) ≡ standing_weight standing
  standing_same events (live b) = bucket_same events (Some b)
  standing_same events (frozen e other) =
      let a = sum_by-append of_file (archived events e.archive) (in_bucket events other) in
      let b = archived_same events e.archive in
      let c = bucket_same events other in
      omega (arith, a, b, c)

  same_sum : {X : Type 0} (f g : X → ℕ) → ((x : X) → f x ≡ g x) → (xs : List X) → sum_by f xs ≡ sum_by g xs
  same_sum f g e [] = refl
  same_sum f g e (x ∷ xs) =
      let a = sum_by-cons f x xs in
      let b = sum_by-cons g x xs in
      let c = e x in
      let d = same_sum f g e xs in
      omega (arith, a, b, c, d)

  index_same : (i : Index) → sum_by of_file (filed_index i) ≡ index_weight i
  index_same i = flat_sum of_file filed_slot i.slots ∙ same_sum (λ (s : Slot). sum_by of_file (filed_slot s)) slot_weight
      (λ s. standing_same s.events s.standing) i.slots

  filed_same : (s : Catalog) → sum_by of_file (filed s) ≡ weight s
  filed_same s = flat_sum of_file filed_index s.indexes
      ∙ same_sum (λ (i : Index). sum_by of_file (filed_index i)) index_weight index_same s.indexes

  -- ---- one bucket

  changed_same : (f : Bucket → Bucket) → ((b : Bucket) → (f b).file ≡ b.file) → (standing : Standing) →
      standing_weight (change_live f standing) ≡ standing_weight standing
  changed_same f e (live b) = ap w (e b)
  changed_same f e (frozen entry other) = refl

  closed_file : (limits : Limits) (b : Bucket) → (closed limits b).file ≡ b.file
  closed_file limits b = by_test (nat_le (megabytes limits.max_data_mb) b.bytes) (λ t. rw t refl) (λ t. rw t refl)

  filled_same : (limits : Limits) (event : Event) (used : ℕ) (moment : ℤ) (s : Slot) →
      slot_weight (filled_slot limits event used moment s) ≡ slot_weight s
  filled_same limits event used moment s =
      changed_same (λ (b : Bucket). closed limits (with_event event used moment b))
      (λ b. closed_file limits (with_event event used moment b)) s.standing

  rolled_same : (o : Option ℕ) (slots : List Slot) → sum_by slot_weight (roll o slots) ≡ sum_by slot_weight slots
  rolled_same None slots = refl
  rolled_same (Some k) slots = sum_update_same slot_weight k rolled_slot (λ s. changed_same rolled (λ b. refl) s.standing) slots

  placed_keeps : (limits : Limits) (file : ℕ) (event : Event) (used : ℕ) (moment : ℤ) (slots : List Slot) →
      GoesInto limits file event used moment slots ⊎ GoesBehind limits file event used moment slots →
      sum_by slot_weight slots ≤ sum_by slot_weight (placed limits file event used moment slots)
  placed_keeps limits file event used moment slots (inl g) =
      let a : sum_by slot_weight (placed limits file event used moment slots) ≡ sum_by slot_weight slots =
      ap (sum_by slot_weight) g.comes_to
      ∙ sum_update_same slot_weight g.place (filled_slot limits event used moment) (λ s. filled_same limits event used moment s) slots in
      omega (arith, a)
  placed_keeps limits file event used moment slots (inr g) =
      let made = made_slot limits (length (roll g.rolls slots)) g.quarantine file event used moment in
      let a = ap (sum_by slot_weight) g.comes_to in
      let b = sum_by-append slot_weight (roll g.rolls slots) (made ∷ []) in
      let c = rolled_same g.rolls slots in
      omega (arith, a, b, c)

  thawed_keeps : (file : ℕ) (e : Entry) (archive : Option ℕ) (other : Option Bucket) →
      archive_weight e.archive + bucket_weight other ≤ standing_weight (thawed_by e archive file other)
  thawed_keeps file e None other = omega arith
  thawed_keeps file e (Some archive) (Some b) = omega arith
  thawed_keeps file e (Some archive) None = omega arith

  thaws_keep : (file : ℕ) (standing : Standing) → standing_weight standing ≤ standing_weight (thawing file standing)
  thaws_keep file (live b) = omega arith
  thaws_keep file (frozen e other) = thawed_keeps file e e.archive other

  update_keeps : (k : ℕ) (f : Slot → Slot) → ((s : Slot) → slot_weight s ≤ slot_weight (f s)) → (slots : List Slot) →
      sum_by slot_weight slots ≤ sum_by slot_weight (update k f slots)
  update_keeps k f h [] = omega arith
  update_keeps zero f h (s ∷ slots) = let a = sum_by-cons slot_weight s slots in let b = sum_by-cons slot_weight (f s) slots in let c =
      h s in omega (arith, a, b, c)
  update_keeps (suc k) f h (s ∷ slots) =
      let a = sum_by-cons slot_weight s slots in
      let b = sum_by-cons slot_weight s (update k f slots) in
      let c = update_keeps k f h slots in
      omega (arith, a, b, c)

  -- ---- the indexes

  change_keeps : (name : List ℕ) (f : Index → Index) → ((i : Index) → index_weight i ≤ index_weight (f i)) →
      (is : List Index) (o : Option Index) → find index_name name is ≡ o →
      sum_by index_weight is ≤ sum_by index_weight (change index_name name f is)
  change_keeps name f h is None e = let a = ap (sum_by index_weight) (change_none index_name name f is e) in omega (arith, a)
  change_keeps name f h is (Some y) e = let a = sum_change index_name name f index_weight y is e in let b = h y in omega (arith, a, b)

  put_keeps : (name : List ℕ) (f : Index → Index) (fresh : Index) (is : List Index) (o : Option Index) → find index_name name is ≡ o →
      index_weight (unwrap_or o fresh) ≤ index_weight (f (unwrap_or o fresh)) →
      sum_by index_weight is ≤ sum_by index_weight (if is_some o then change index_name name f is else insert index_name (f fresh) is)
  put_keeps name f fresh is None e h = let a = sum_put (stands_before index_name) index_weight (f fresh) is in omega (arith, a)
  put_keeps name f fresh is (Some y) e h = let a = sum_change index_name name f index_weight y is e in omega (arith, a, h)

  sound_in : (s : Catalog) (name : List ℕ) → AllSound s → (o : Option Index) → find index_name name s.indexes ≡ o →
      AreSoundFrom (unwrap_or o (fresh_index name)).name 0 (unwrap_or o (fresh_index name)).slots
  sound_in s name h None e = tt
  sound_in s name h (Some i) e = all_found IsSound index_name name i s.indexes h e

  -- ---- what is dealt

  put_event_keeps : (force : List Kept) (moment : ℤ) (s : Catalog) (event : Event) (name : List ℕ) → AllSound s →
      weight s ≤ weight (machine.put_event force moment s event name)
  put_event_keeps force moment s event name sound =
      let i : Index = index_at s name in
      put_keeps name (filled force moment s.next_file (s.counts.placed + 1) event) (fresh_index name) s.indexes
      (find index_name name s.indexes) refl
      (placed_keeps (limits force i.name) s.next_file event (s.counts.placed + 1) moment i.slots
      (goes i.name (limits force i.name) s.next_file event (s.counts.placed + 1) moment i.slots
      (sound_in s name sound (find index_name name s.indexes) refl)))

  to_keeps : (force : List Kept) (moment : ℤ) (s : Catalog) (event : Event) (o : Option (List ℕ)) → AllSound s →
      weight s ≤ weight (deal_to force moment s event o)
  to_keeps force moment s event None sound = omega arith
  to_keeps force moment s event (Some name) sound = put_event_keeps force moment s (named name event) name sound

  deal_keeps : (force : List Kept) (moment : ℤ) (s : Catalog) (o : Routed) → AllSound s → weight s ≤ weight (deal force moment s o)
  deal_keeps force moment s (To event) sound = to_keeps force moment s event (home force event.index) sound
  deal_keeps force moment s Null sound = omega arith

  deals_keep : (force : List Kept) (moment : ℤ) (s : Catalog) (os : List Routed) → AllSound s →
      weight s ≤ weight (deal_all force moment s os)
  deals_keep force moment s [] sound = omega arith
  deals_keep force moment s (o ∷ os) sound =
      let a = deal_keeps force moment s o sound in
      let b = deals_keep force moment (deal force moment s o) os (keeps_sound.deals force moment s o sound) in
      omega (arith, a, b)

  -- ---- a roll, and a thaw

  closed_same : (slots : List Slot) → sum_by slot_weight (map closed_slot slots) ≡ sum_by slot_weight slots
  closed_same [] = refl
  closed_same (s ∷ slots) =
      let a = changed_same kept.closed (λ b. by_test (is_open b) (λ t. rw t refl) (λ t. rw t refl)) s.standing in
      let b = closed_same slots in
      let c = sum_by-cons slot_weight (closed_slot s) (map closed_slot slots) in
      let d = sum_by-cons slot_weight s slots in
      omega (arith, a, b, c, d)

  rolls_keep : (index : List ℕ) (s : Catalog) → weight s ≤ weight (machine.roll index s)
  rolls_keep index s =
      let a = change_same index_weight index closed_index (λ i. closed_same i.slots) s.indexes (find index_name index s.indexes) refl in
      omega (arith, a)

  thaw_keeps : (index : List ℕ) (id : ℕ) (s : Catalog) → weight s ≤ weight (machine.thaw index id s)
  thaw_keeps index id s =
      change_keeps index (thawed_index id s.next_file) (λ i.
      update_keeps id (thawed_slot s.next_file) (λ x. thaws_keep s.next_file x.standing) i.slots) s.indexes
      (find index_name index s.indexes) refl

  -- ---- a turn

  stays_or_goes : (t : Turn) (file : ℕ) (b : Bucket) (o : Option Rule) → is_live b ≡ true →
      w b.file ≤ standing_weight (turned_by t file b o) + sum_by w (leaves_by t b o ++ [])
  stays_or_goes t file b None e =
      by_test (is_among t.moves.cooled b.id)
      (λ c. rw (e, c) (let a = sum_by-cons w b.file [] in omega (arith, a)))
      (λ c. rw (e, c) (by_test (is_among t.moves.warmed b.id) (λ v. rw v (omega arith)) (λ v. rw v (omega arith))))
  stays_or_goes t file b (Some rule) e = let a = sum_by-cons w b.file [] in omega (arith, a)

  slot_turns : (t : Turn) (index : List ℕ) (id file : ℕ) (events : List Event) (standing : Standing) →
      IsStandingOf index id events standing →
      standing_weight standing ≤ standing_weight (kept.turned t file standing) + sum_by w
      (flat_map (leaving t) (option_to_list (listed standing)))
  slot_turns t index id file events (live b) h =
      let e = live_is b h.state_is in
      subst (λ (o : Option Rule). w b.file ≤ standing_weight (turned_by t file b (rule_of t.moves.frozen b.id)) + sum_by w (leaves_by t b o
      ++ [])) (sym (live_rule t b e))
      (stays_or_goes t file b (rule_of t.moves.frozen b.id) e)
  slot_turns t index id file events (frozen f other) h = omega arith

  slots_turn : (t : Turn) (index : List ℕ) (id file : ℕ) (slots : List Slot) → AreSoundFrom index id slots →
      sum_by slot_weight slots ≤ sum_by slot_weight (kept.all_turned t file slots) + sum_by w (flat_map (leaving t) (buckets slots))
  slots_turn t index id file [] h = omega arith
  slots_turn t index id file (s ∷ slots) h =
      let next = kept.file_behind t file s.standing in
      let own = option_to_list (listed s.standing) in
      let a = slot_turns t index id file s.events s.standing h.0 in
      let b = slots_turn t index (suc id) next slots h.1 in
      let c = sum_by-cons slot_weight s slots in
      let d = sum_by-cons slot_weight (record { events = s.events; standing = kept.turned t file s.standing })
      (kept.all_turned t next slots) in
      let e = ap (sum_by w) (flat_map-append (leaving t) own (buckets slots)) in
      let f = sum_by-append w (flat_map (leaving t) own) (flat_map (leaving t) (buckets slots)) in
      omega (arith, a, b, c, d, e, f)

  indexes_turn : (force : List Kept) (moment : ℤ) (file : ℕ) (is : List Index) → AllByRecursion IsSound is →
      sum_by index_weight is ≤ sum_by index_weight (all_turned force moment file is) + sum_by w (views_left moment (seen force is))
  indexes_turn force moment file [] h = omega arith
  indexes_turn force moment file (i ∷ is) h =
      let next = file + files_taken force moment i in
      let t = turn_in force moment i in
      let a = slots_turn t i.name 0 file i.slots h.0 in
      let b = indexes_turn force moment next is h.1 in
      let c = sum_by-cons index_weight i is in
      let d = sum_by-cons index_weight (turned_index force moment file i) (all_turned force moment next is) in
      let e = sum_by-append w (flat_map (leaving t) (buckets i.slots)) (views_left moment (seen force is)) in
      omega (arith, a, b, c, d, e)

-- indexes without buckets leave no file
put_left : (force : List Kept) (moment : ℤ) (n : List ℕ) (is : List Index) →
    views_left moment (seen force (insert index_name (fresh_index n) is)) ≡ views_left moment (seen force is)
put_left force moment n [] = refl
put_left force moment n (i ∷ is) =
    by_test (stands_before index_name i (fresh_index n))
    (λ t. rw t (ap (λ (xs : List File). flat_map (leaving (turn_in force moment i)) (buckets i.slots) ++ xs) (put_left force moment n is)))
    (λ t. rw t refl)

fresh_left : (force : List Kept) (moment : ℤ) (names : List (List ℕ)) (is : List Index) →
    views_left moment (seen force (fold with_fresh is names)) ≡ views_left moment (seen force is)
fresh_left force moment [] is = refl
fresh_left force moment (n ∷ names) is =
    fresh_left force moment names (with_fresh is n)
    ∙ by_test (is_some (find index_name n is))
    (λ t. rw t (ap (λ (l : List Index). views_left moment (seen force l)) (change_nothing n is)))
    (λ t. rw t (put_left force moment n is))

files_are : (force : List Kept) (moment : ℤ) (s : Catalog) →
    (turn_all moment (shelved force s)).files ≡ views_left moment (seen force s.indexes)
files_are force moment s = ap (λ (t : HousekeepingResult). t.files) (turn_made force moment s)
    ∙ fresh_left force moment (configured force) s.indexes

turns_lose : (w : Weight) (force : List Kept) (moment : ℤ) (s : Catalog) → AllSound s →
    weight w s ≤ weight w (tick force moment s) + sum_by w (turn_all moment (shelved force s)).files
turns_lose w force moment s sound =
    let a = indexes_turn w force moment s.next_file s.indexes sound in
    let b = ap (sum_by w) (files_are force moment s) in
    omega (arith, a, b)

-- ---- what is lost is among the files

abbrev once : File → Weight
once file other = if is_same file other then 1 else 0

here : (file : File) (fs : List Filed) → is_some (bytes_of fs file) ≡ true → 1 ≤ sum_by (of_file (once file)) fs
here file [] e = absurd cc
here file (f ∷ fs) e =
    let s = sum_by-cons (of_file (once file)) f fs in
    by_test (is_same file f.file)
    (λ t. (let one : once file f.file ≡ 1 = rw t refl in omega (arith, s, one)))
    (λ t. (let rest = here file fs (rw t at e) in omega (arith, s, rest)))

gone : (file : File) (fs : List Filed) → is_some (bytes_of fs file) ≡ false → sum_by (of_file (once file)) fs ≡ 0
gone file [] e = refl
gone file (f ∷ fs) e =
    let s = sum_by-cons (of_file (once file)) f fs in
    by_test (is_same file f.file)
    (λ t. absurd (let no : true ≡ false = rw t at e in cc))
    (λ t. (let none : once file f.file ≡ 0 = rw t refl in let rest = gone file fs (rw t at e) in omega (arith, s, none, rest)))

contains_more : {X : Type 0} (x y : X) (xs : List X) → Contains xs x → Contains (y ∷ xs) x
contains_more x y xs c = (suc c.0, omega (arith, c.1), c.2)

among : (file : File) (files : List File) → 1 ≤ sum_by (once file) files → Contains files file
among file [] h = absurd (omega (arith, h))
among file (f ∷ files) h =
    let s = sum_by-cons (once file) f files in
    by_test (is_same file f)
    (λ t. (0, omega arith, sym (same_file file f t)))
    (λ t. contains_more file f files (among file files (let none : once file f ≡ 0 = rw t refl in omega (arith, s, h, none))))

let_go : (old new : Catalog) (files : List File) → ((w : Weight) → weight w old ≤ weight w new + sum_by w files) → AreLetGo old new files
let_go old new files loses file there none =
    let w = once file in
    among file files (
    let a = loses w in
    let b = here file (filed old) there in
    let c = gone file (filed new) none in
    let d = filed_same w old in
    let e = filed_same w new in
    omega (arith, a, b, c, d, e))

-- ---- the commands

pub turn_lets_go : (force : List Kept) (moment : ℤ) (s : Catalog) → AllSound s →
    AreLetGo s (tick force moment s) (turn_all moment (shelved force s)).files
turn_lets_go force moment s sound = let_go s (tick force moment s) (turn_all moment (shelved force s)).files
    (λ w. turns_lose w force moment s sound)

none_goes : (old new : Catalog) → ((w : Weight) → weight w old ≤ weight w new) → AreLetGo old new []
none_goes old new keeps = let_go old new [] (λ w. (let a = keeps w in omega (arith, a)))

pub deals_let_none_go : (force : List Kept) (moment : ℤ) (s : Catalog) (os : List Routed) → AllSound s →
    AreLetGo s (deal_all force moment s os) []
deals_let_none_go force moment s os sound = none_goes s (deal_all force moment s os) (λ w. deals_keep w force moment s os sound)

pub rolls_let_none_go : (index : List ℕ) (s : Catalog) → AreLetGo s (machine.roll index s) []
rolls_let_none_go index s = none_goes s (machine.roll index s) (λ w. rolls_keep w index s)

pub thaws_let_none_go : (index : List ℕ) (id : ℕ) (s : Catalog) → AreLetGo s (machine.thaw index id s) []
thaws_let_none_go index id s = none_goes s (machine.thaw index id s) (λ w. thaw_keeps w index id s)
