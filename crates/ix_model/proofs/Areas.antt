-- After every history, no live bucket has a file of a log.
use Rattle.std.proofs.Common.{◌≡◌, ℕ, zero, suc, ◌+◌, ℤ, false, List, [], ◌∷◌, ◌++◌, map, refl, sym, ap, ◌∙◌, inl, inr, subst}
use Rattle.std.specs.Prelude.{Option, Some, None, ◌⊎◌, slice_get}
use Rattle.std.specs.List.{AllByRecursion}
use Rattle.ix_base.specs.declared.events.Event.{Event}
use Rattle.ix_base.specs.declared.events.Routed.{Routed}
use Rattle.ix_base.specs.declared.events.Routed.TheVariants.{To, Null}
use Rattle.ix_base.specs.declared.files.File.{File}
use Rattle.ix_items.specs.declared.items.Bucket.{Bucket}
use Rattle.ix_items.specs.declared.items.Entry.{Entry}
use Rattle.ix_items.specs.declared.items.Kept.{Kept}
use Rattle.ix_items.specs.declared.items.Rule.{Rule}
use Rattle.ix_life.specs.Placing.{is_open}
use Rattle.ix_life.specs.declared.limits.Limits.{Limits}
use Rattle.ix_model.specs.Buckets.{Standing, live, frozen, Slot, Index}
use Rattle.ix_model.specs.Given.{Chooser, home, limits}
use Rattle.ix_model.specs.Keeping.{turned, turned_by, file_behind, closed_slot, thawing, thawed_by, thawed_slot}
use Rattle.ix_model.specs.Keeping as kept
use Rattle.ix_model.specs.Placed.{change_live, rolled_slot, filled_slot, roll, placed}
use Rattle.ix_model.specs.State.{Catalog, index_name, fresh_index, empty}
use Rattle.ix_model.specs.Step.{filled, deal_to, deal, turn_in, files_taken, all_turned, closed_index, thawed_index, state_after}
use Rattle.ix_model.specs.Sums.{IsSound}
use Rattle.ix_model.specs.declared.commands.TimedCommand.{TimedCommand}
use Rattle.ix_model.proofs.Named.{by_test, all_change, all_change_or_insert, all_found}
use Rattle.ix_model.proofs.Placing.{GoesInto, GoesBehind, goes}
use Rattle.ix_model.proofs.Sound.{sound_placed}
use Rattle.ix_model.proofs.Stepping.{Keeps, keeps_after, AllSound, keeps_sound}
use Rattle.ix_catalog.specs.Buckets.{Turn, named, with_event, closed, rolled, rule_of, is_among}
use Rattle.ix_catalog.specs.Lists.{update, change_or_insert}
use Rattle.ix_model.specs.Contents.{is_meta_area}
use Rattle.ix_model.proofs.Filing.{slot_at, slot_found}
use Rattle.ix_model.proofs.Putting.{closed_file}

none_some : {X : Type 0} {x : X} → None ≡ Some x → ⊥
none_some e = cc

some_same : {X : Type 0} {x y : X} → Some x ≡ Some y → x ≡ y
some_same e = cc

abbrev pub IsApartFromLogs : Standing → Type 0
IsApartFromLogs (live b) = is_meta_area b.file.area ≡ false
IsApartFromLogs (frozen e other) = Unit {0}

abbrev pub SlotApart : Slot → Type 0
SlotApart s = IsApartFromLogs s.standing

abbrev pub IndexApart : Index → Type 0
IndexApart i = AllByRecursion SlotApart i.slots

same_file_apart : (f : Bucket → Bucket) → ((b : Bucket) → (f b).file ≡ b.file) → (standing : Standing) → IsApartFromLogs standing →
    IsApartFromLogs (change_live f standing)
same_file_apart f k (live b) h = ap (λ (x : File). is_meta_area x.area) (k b) ∙ h
same_file_apart f k (frozen e other) h = tt

all_update : (k : ℕ) (f : Slot → Slot) (slots : List Slot) → ((s : Slot) → SlotApart s → SlotApart (f s)) → AllByRecursion SlotApart slots →
    AllByRecursion SlotApart (update k f slots)
all_update k f [] p h = tt
all_update zero f (s ∷ slots) p h = (p s h.0, h.1)
all_update (suc k) f (s ∷ slots) p h = (h.0, all_update k f slots p h.1)

all_push : (slots : List Slot) (s : Slot) → AllByRecursion SlotApart slots → SlotApart s → AllByRecursion SlotApart (slots ++ s ∷ [])
all_push [] s h p = (p, tt)
all_push (x ∷ slots) s h p = (h.0, all_push slots s h.1 p)

rolled_apart : (o : Option ℕ) (slots : List Slot) → AllByRecursion SlotApart slots → AllByRecursion SlotApart (roll o slots)
rolled_apart None slots h = h
rolled_apart (Some k) slots h = all_update k rolled_slot slots (λ s p. same_file_apart rolled (λ b. refl) s.standing p) h

placed_apart : (limits : Limits) (file : ℕ) (event : Event) (used : ℕ) (moment : ℤ) (slots : List Slot) →
    GoesInto limits file event used moment slots ⊎ GoesBehind limits file event used moment slots → AllByRecursion SlotApart slots →
    AllByRecursion SlotApart (placed limits file event used moment slots)
placed_apart limits file event used moment slots (inl g) h =
    subst (AllByRecursion SlotApart) (sym g.comes_to)
    (all_update g.place (filled_slot limits event used moment) slots
    (λ s p. same_file_apart (λ (b : Bucket). closed limits (with_event event used moment b))
    (λ b. closed_file limits (with_event event used moment b)) s.standing p) h)
placed_apart limits file event used moment slots (inr g) h =
    subst (AllByRecursion SlotApart) (sym g.comes_to)
    (all_push (roll g.rolls slots) _ (rolled_apart g.rolls slots h) (ap (λ (x : File). is_meta_area x.area) (closed_file limits _)))

turned_apart : (t : Turn) (file : ℕ) (standing : Standing) → IsApartFromLogs standing → IsApartFromLogs (turned t file standing)
turned_apart t file (live b) h = by (rule_of t.moves.frozen b.id)
  where
    by : (o : Option Rule) → IsApartFromLogs (turned_by t file b o)
    by (Some rule) = tt
    by None = by_test (is_among t.moves.cooled b.id)
        (λ c. rw c refl)
        (λ c. rw c (by_test (is_among t.moves.warmed b.id) (λ w. rw w h) (λ w. rw w h)))
turned_apart t file (frozen e other) h = tt

all_turned_apart : (t : Turn) (file : ℕ) (slots : List Slot) → AllByRecursion SlotApart slots →
    AllByRecursion SlotApart (kept.all_turned t file slots)
all_turned_apart t file [] h = tt
all_turned_apart t file (s ∷ slots) h = (turned_apart t file s.standing h.0, all_turned_apart t (file_behind t file s.standing) slots h.1)

indexes_turned_apart : (force : List Kept) (moment : ℤ) (file : ℕ) (is : List Index) → AllByRecursion IndexApart is →
    AllByRecursion IndexApart (all_turned force moment file is)
indexes_turned_apart force moment file [] h = tt
indexes_turned_apart force moment file (i ∷ is) h = (
  all_turned_apart (turn_in force moment i) file i.slots h.0,
  indexes_turned_apart force moment (file + files_taken force moment i) is h.1,
)

closed_apart : (slots : List Slot) → AllByRecursion SlotApart slots → AllByRecursion SlotApart (map closed_slot slots)
closed_apart [] h = tt
closed_apart (s ∷ slots) h =
    (same_file_apart kept.closed (λ b. by_test (is_open b) (λ t. rw t refl) (λ t. rw t refl)) s.standing h.0, closed_apart slots h.1)

thawed_apart : (e : Entry) (archive : Option ℕ) (file : ℕ) (other : Option Bucket) → IsApartFromLogs (thawed_by e archive file other)
thawed_apart e None file other = tt
thawed_apart e (Some archive) file (Some b) = tt
thawed_apart e (Some archive) file None = tt

thawing_apart : (file : ℕ) (standing : Standing) → IsApartFromLogs standing → IsApartFromLogs (thawing file standing)
thawing_apart file (live b) h = h
thawing_apart file (frozen e other) h = thawed_apart e e.archive file other

-- ---- histories

abbrev Both : Index → Type 0
Both i = IsSound i × IndexApart i

all_both : (is : List Index) → AllByRecursion IsSound is → AllByRecursion IndexApart is → AllByRecursion Both is
all_both [] h k = tt
all_both (i ∷ is) h k = ((h.0, k.0), all_both is h.1 k.1)

of_both : (is : List Index) → AllByRecursion Both is → AllByRecursion IndexApart is
of_both [] h = tt
of_both (i ∷ is) h = (h.0.1, of_both is h.1)

pub record AreApartFromLogs (s : Catalog) : Type 0 where
  pub sound : AllSound s
  pub each : AllByRecursion IndexApart s.indexes

filled_apart : (force : List Kept) (moment : ℤ) (file used : ℕ) (event : Event) (i : Index) → Both i →
    Both (filled force moment file used event i)
filled_apart force moment file used event i h = (
  sound_placed i.name (limits force i.name) file event used moment i.slots h.0,
  placed_apart (limits force i.name) file event used moment i.slots (goes i.name (limits force i.name) file event used moment i.slots h.0)
      h.1,
)

to_apart : (force : List Kept) (moment : ℤ) (s : Catalog) (event : Event) (o : Option (List ℕ)) → AreApartFromLogs s →
    AllByRecursion IndexApart (deal_to force moment s event o).indexes
to_apart force moment s event None h = h.each
to_apart force moment s event (Some name) h =
    let f = filled force moment s.next_file (s.counts.placed + 1) (named name event) in
    of_both (change_or_insert index_name name f (fresh_index name) s.indexes)
    (all_change_or_insert Both index_name name f (fresh_index name) s.indexes (all_both s.indexes h.sound h.each)
    (λ i p. filled_apart force moment s.next_file (s.counts.placed + 1) (named name event) i p) (tt, tt))

deal_apart : (force : List Kept) (moment : ℤ) (s : Catalog) (o : Routed) → AreApartFromLogs s →
    AllByRecursion IndexApart (deal force moment s o).indexes
deal_apart force moment s (To event) h = to_apart force moment s event (home force event.index) h
deal_apart force moment s Null h = h.each

keeps_apart : Keeps AreApartFromLogs
keeps_apart = record {
  deals = λ force moment s o h. record { sound = keeps_sound.deals force moment s o h.sound; each = deal_apart force moment s o h };
  ticks = λ force moment s h. record {
    sound = keeps_sound.ticks force moment s h.sound;
    each = indexes_turned_apart force moment s.next_file s.indexes h.each;
  };
  rolls = λ index s h. record {
    sound = keeps_sound.rolls index s h.sound;
    each = all_change IndexApart index_name index closed_index s.indexes h.each (λ i p. closed_apart i.slots p);
  };
  thaws = λ index id s h. record {
    sound = keeps_sound.thaws index id s h.sound;
    each = all_change IndexApart index_name index (thawed_index id s.next_file) s.indexes h.each
        (λ i p. all_update id (thawed_slot s.next_file) i.slots (λ x q. thawing_apart s.next_file x.standing q) p);
  };
}

pub apart_from_logs : (choose : Chooser) (history : List TimedCommand) → AreApartFromLogs (state_after choose history).catalog
apart_from_logs choose history = keeps_after AreApartFromLogs keeps_apart choose empty history (record { sound = tt; each = tt })

-- ---- one bucket

slot_apart : (j : ℕ) (slots : List Slot) (s : Slot) → AllByRecursion SlotApart slots → slice_get slots j ≡ Some s → SlotApart s
slot_apart j [] s h e = absurd (none_some e)
slot_apart zero (x ∷ slots) s h e = subst SlotApart (some_same e) h.0
slot_apart (suc j) (x ∷ slots) s h e = slot_apart j slots s h.1 e

pub live_apart : (s : Catalog) (name : List ℕ) (id : ℕ) (slot : Slot) (b : Bucket) → AreApartFromLogs s → slot_at s name id ≡ Some slot →
    slot.standing ≡ live b → is_meta_area b.file.area ≡ false
live_apart s name id slot b h e k =
    let found = slot_found s.indexes name id slot e in
    subst IsApartFromLogs k (slot_apart id found.0.slots slot (all_found IndexApart index_name name found.0 s.indexes h.each found.1.0)
    found.1.1)
