-- After every history, the moments of buckets and entries are such as are taken, and no bucket says
-- that more events were placed than were.
use Rattle.std.proofs.Common.{◌≤◌, ℕ, zero, suc, ◌+◌, ℤ, Bool, true, false, List, [], ◌∷◌, ◌++◌, map, length, sym, arith, inl, inr, subst}
use Rattle.std.specs.Prelude.{Option, Some, None, ◌⊎◌, if◌then◌else◌, is_some, pos, ◌≤ℤ◌, nat_le, bytes_eq}
use Rattle.std.specs.List.{AllByRecursion}
use Rattle.std.proofs.lemmas.Int.{ints}
use Rattle.ix_base.specs.Clocks.{clamped, latest}
use Rattle.ix_base.specs.declared.events.Event.{Event}
use Rattle.ix_base.specs.declared.events.Routed.{Routed}
use Rattle.ix_base.specs.declared.events.Routed.TheVariants.{To, Null}
use Rattle.ix_items.specs.declared.items.Bucket.{Bucket}
use Rattle.ix_items.specs.declared.items.Entry.{Entry}
use Rattle.ix_items.specs.declared.items.Kept.{Kept}
use Rattle.ix_items.specs.declared.items.Rule.{Rule}
use Rattle.ix_life.specs.Housekeeping.{megabytes}
use Rattle.ix_life.specs.Placing.{is_open}
use Rattle.ix_life.specs.declared.limits.Limits.{Limits}
use Rattle.ix_model.specs.Buckets.{Standing, live, frozen, Slot, Index}
use Rattle.ix_model.specs.Given.{Chooser, home, limits}
use Rattle.ix_model.specs.Keeping.{turned, turned_by, file_behind, closed_slot, thawing, thawed_by, thawed_slot}
use Rattle.ix_model.specs.Keeping as kept
use Rattle.ix_model.specs.Placed.{change_live, rolled_slot, filled_slot, made_slot, roll, placed}
use Rattle.ix_model.specs.State.{State, Catalog, index_name, fresh_index, empty}
use Rattle.ix_model.specs.Step.{filled, deal_to, deal, deal_all, outcomes, turn_in, files_taken, all_turned, closed_index, thawed_index}
use Rattle.ix_model.specs.Step.{moves, effective, step, after_from, state_after}
use Rattle.ix_model.specs.Sums.{IsSound}
use Rattle.ix_model.specs.declared.commands.Command.{Command}
use Rattle.ix_model.specs.declared.commands.Command.TheVariants.{Begin, Block, End, Tick, Roll, Thaw, Configure, Direct}
use Rattle.ix_model.specs.declared.commands.TimedCommand.{TimedCommand}
use Rattle.ix_model.proofs.Named.{by_test, all_change, all_put}
use Rattle.ix_model.proofs.Placing.{GoesInto, GoesBehind, goes}
use Rattle.ix_model.proofs.Stepping.{AllSound, keeps_sound}
use Rattle.ix_replay.specs.Bounds.{IsMoment}
use Rattle.ix_catalog.specs.Buckets.{Turn, named, with_event, made, closed, rolled, rule_of, is_among, state_for}
use Rattle.ix_catalog.specs.Lists.{find, update, change, insert, stands_before}
use Rattle.ix_recovery.proofs.Members.{all_from}

-- ---- moments

pub range_moment : (moment : ℤ) → pos 0 ≤ℤ moment → moment ≤ℤ latest → IsMoment moment
range_moment moment a b = grind (arith, ints, a, b)

not_earlier : (last moment : ℤ) → pos 0 ≤ℤ last → pos 0 ≤ℤ effective last moment
not_earlier last moment h = grind (arith, ints, h)

clamped_most : (moment : ℤ) → clamped moment ≤ℤ latest
clamped_most moment = grind (arith, ints)

not_later : (last moment : ℤ) → last ≤ℤ latest → effective last moment ≤ℤ latest
not_later last moment h = let a = clamped_most moment in grind (arith, ints, a)

-- ---- one bucket

abbrev pub IsUsed : ℕ → Bucket → Type 0
IsUsed placed b = (b.used ≤ placed) × IsMoment b.touched

abbrev pub MayBeUsed : ℕ → Option Bucket → Type 0
MayBeUsed placed None = Unit {0}
MayBeUsed placed (Some b) = IsUsed placed b

abbrev pub IsRanged : ℕ → Standing → Type 0
IsRanged placed (live b) = IsUsed placed b
IsRanged placed (frozen e other) = IsMoment e.moment × MayBeUsed placed other

abbrev pub SlotRanged : ℕ → Slot → Type 0
SlotRanged placed s = IsRanged placed s.standing

abbrev pub IndexRanged : ℕ → Index → Type 0
IndexRanged placed i = AllByRecursion (SlotRanged placed) i.slots

more_used : (a b : ℕ) → a ≤ b → (o : Option Bucket) → MayBeUsed a o → MayBeUsed b o
more_used a b l None h = tt
more_used a b l (Some x) h = ((let u = h.0 in omega (arith, u, l)), h.1)

more_ranged : (a b : ℕ) → a ≤ b → (standing : Standing) → IsRanged a standing → IsRanged b standing
more_ranged a b l (live x) h = ((let u = h.0 in omega (arith, u, l)), h.1)
more_ranged a b l (frozen e other) h = (h.0, more_used a b l other h.1)

more_index : (a b : ℕ) → a ≤ b → (i : Index) → IndexRanged a i → IndexRanged b i
more_index a b l i h = all_from (SlotRanged b) (SlotRanged a) i.slots (λ s p. more_ranged a b l s.standing p) h

-- a change that leaves what is said of use
same_ranged : (n : ℕ) (f : Bucket → Bucket) → ((b : Bucket) → IsUsed n b → IsUsed n (f b)) → (standing : Standing) → IsRanged n standing →
    IsRanged n (change_live f standing)
same_ranged n f k (live b) h = k b h
same_ranged n f k (frozen e other) h = h

closed_used : (n : ℕ) (lim : Limits) (b : Bucket) → IsUsed n b → IsUsed n (closed lim b)
closed_used n lim b h = by_test (nat_le (megabytes lim.max_data_mb) b.bytes) (λ t. rw t h) (λ t. rw t h)

filled_ranged : (n : ℕ) (lim : Limits) (event : Event) (moment : ℤ) → IsMoment moment → (standing : Standing) → IsRanged n standing →
    IsRanged (n + 1) (change_live (λ (b : Bucket). closed lim (with_event event (n + 1) moment b)) standing)
filled_ranged n lim event moment m (live b) h = closed_used (n + 1) lim (with_event event (n + 1) moment b) (omega arith, m)
filled_ranged n lim event moment m (frozen e other) h = more_ranged n (n + 1) (omega arith) (frozen e other) h

-- ---- the buckets of an index

all_update : (P : Slot → Type 0) (k : ℕ) (f : Slot → Slot) (slots : List Slot) → ((s : Slot) → P s → P (f s)) → AllByRecursion P slots →
    AllByRecursion P (update k f slots)
all_update P k f [] p h = tt
all_update P zero f (s ∷ slots) p h = (p s h.0, h.1)
all_update P (suc k) f (s ∷ slots) p h = (h.0, all_update P k f slots p h.1)

-- one of them changes, and all the others stand
one_update : (P Q : Slot → Type 0) (k : ℕ) (f : Slot → Slot) (slots : List Slot) → ((s : Slot) → P s → Q (f s)) → ((s : Slot) → P s → Q s) →
    AllByRecursion P slots →
    AllByRecursion Q (update k f slots)
one_update P Q k f [] p q h = tt
one_update P Q zero f (s ∷ slots) p q h = (p s h.0, all_from Q P slots q h.1)
one_update P Q (suc k) f (s ∷ slots) p q h = (q s h.0, one_update P Q k f slots p q h.1)

all_push : (P : Slot → Type 0) (slots : List Slot) (s : Slot) → AllByRecursion P slots → P s → AllByRecursion P (slots ++ s ∷ [])
all_push P [] s h p = (p, tt)
all_push P (x ∷ slots) s h p = (h.0, all_push P slots s h.1 p)

rolled_ranged : (n : ℕ) (o : Option ℕ) (slots : List Slot) → AllByRecursion (SlotRanged n) slots →
    AllByRecursion (SlotRanged n) (roll o slots)
rolled_ranged n None slots h = h
rolled_ranged n (Some k) slots h = all_update (SlotRanged n) k rolled_slot slots (λ s p. same_ranged n rolled (λ b u. u) s.standing p) h

placed_ranged : (n : ℕ) (lim : Limits) (file : ℕ) (event : Event) (moment : ℤ) (slots : List Slot) → IsMoment moment →
    GoesInto lim file event (n + 1) moment slots ⊎ GoesBehind lim file event (n + 1) moment slots → AllByRecursion (SlotRanged n) slots →
    AllByRecursion (SlotRanged (n + 1)) (placed lim file event (n + 1) moment slots)
placed_ranged n lim file event moment slots m (inl g) h =
    subst (AllByRecursion (SlotRanged (n + 1))) (sym g.comes_to)
    (one_update (SlotRanged n) (SlotRanged (n + 1)) g.place (filled_slot lim event (n + 1) moment) slots
    (λ s p. filled_ranged n lim event moment m s.standing p) (λ s p. more_ranged n (n + 1) (omega arith) s.standing p) h)
placed_ranged n lim file event moment slots m (inr g) h =
    subst (AllByRecursion (SlotRanged (n + 1))) (sym g.comes_to)
    (all_push (SlotRanged (n + 1)) (roll g.rolls slots) (made_slot lim (length (roll g.rolls slots)) g.quarantine file event (n + 1) moment)
    (all_from (SlotRanged (n + 1)) (SlotRanged n) (roll g.rolls slots) (λ s p. more_ranged n (n + 1) (omega arith) s.standing p)
    (rolled_ranged n g.rolls slots h))
    (closed_used (n + 1) lim (made (length (roll g.rolls slots)) (state_for g.quarantine) file event (n + 1) moment) (omega arith, m)))

turned_ranged : (n : ℕ) (t : Turn) (file : ℕ) (standing : Standing) → IsMoment t.moment → IsRanged n standing →
    IsRanged n (turned t file standing)
turned_ranged n t file (live b) m h = by (rule_of t.moves.frozen b.id)
  where
    by : (o : Option Rule) → IsRanged n (turned_by t file b o)
    by (Some rule) = (m, tt)
    by None = by_test (is_among t.moves.cooled b.id)
        (λ c. rw c h)
        (λ c. rw c (by_test (is_among t.moves.warmed b.id) (λ w. rw w h) (λ w. rw w h)))
turned_ranged n t file (frozen e other) m h = h

all_turned_ranged : (n : ℕ) (t : Turn) (file : ℕ) (slots : List Slot) → IsMoment t.moment → AllByRecursion (SlotRanged n) slots →
    AllByRecursion (SlotRanged n) (kept.all_turned t file slots)
all_turned_ranged n t file [] m h = tt
all_turned_ranged n t file (s ∷ slots) m h =
    (turned_ranged n t file s.standing m h.0, all_turned_ranged n t (file_behind t file s.standing) slots m h.1)

indexes_turned : (n : ℕ) (force : List Kept) (moment : ℤ) (file : ℕ) (is : List Index) → IsMoment moment →
    AllByRecursion (IndexRanged n) is →
    AllByRecursion (IndexRanged n) (all_turned force moment file is)
indexes_turned n force moment file [] m h = tt
indexes_turned n force moment file (i ∷ is) m h = (
  all_turned_ranged n (turn_in force moment i) file i.slots m h.0,
  indexes_turned n force moment (file + files_taken force moment i) is m h.1,
)

closed_ranged : (n : ℕ) (slots : List Slot) → AllByRecursion (SlotRanged n) slots → AllByRecursion (SlotRanged n) (map closed_slot slots)
closed_ranged n [] h = tt
closed_ranged n (s ∷ slots) h =
    (same_ranged n kept.closed (λ b u. by_test (is_open b) (λ t. rw t u) (λ t. rw t u)) s.standing h.0, closed_ranged n slots h.1)

thawed_ranged : (n : ℕ) (e : Entry) (archive : Option ℕ) (file : ℕ) (other : Option Bucket) → IsMoment e.moment → MayBeUsed n other →
    IsRanged n (thawed_by e archive file other)
thawed_ranged n e None file other m h = (m, h)
thawed_ranged n e (Some archive) file (Some b) m h = (m, h)
thawed_ranged n e (Some archive) file None m h = (m, (omega arith, range_moment (pos 0) (omega (arith, ints)) (omega (arith, ints))))

thawing_ranged : (n file : ℕ) (standing : Standing) → IsRanged n standing → IsRanged n (thawing file standing)
thawing_ranged n file (live b) h = h
thawing_ranged n file (frozen e other) h = thawed_ranged n e e.archive file other h.0 h.1

-- ---- the catalog

pub record AreRanged (s : Catalog) : Type 0 where
  pub sound : AllSound s
  pub each : AllByRecursion (IndexRanged s.counts.placed) s.indexes

abbrev Both : ℕ → Index → Type 0
Both n i = IsSound i × IndexRanged n i

all_both : (n : ℕ) (is : List Index) → AllByRecursion IsSound is → AllByRecursion (IndexRanged n) is → AllByRecursion (Both n) is
all_both n [] h k = tt
all_both n (i ∷ is) h k = ((h.0, k.0), all_both n is h.1 k.1)

more_indexes : (n : ℕ) (is : List Index) → AllByRecursion (Both n) is → AllByRecursion (IndexRanged (n + 1)) is
more_indexes n is h = all_from (IndexRanged (n + 1)) (Both n) is (λ i p. more_index n (n + 1) (omega arith) i p.1) h

-- one index changes, or a fresh one comes, and all the others stand
change_ranged : (n : ℕ) (name : List ℕ) (f : Index → Index) (is : List Index) → ((i : Index) → Both n i → IndexRanged (n + 1) (f i)) →
    AllByRecursion (Both n) is →
    AllByRecursion (IndexRanged (n + 1)) (change index_name name f is)
change_ranged n name f [] k h = tt
change_ranged n name f (i ∷ is) k h =
    by_test (bytes_eq i.name name)
    (λ t. rw t (k i h.0, more_indexes n is h.1))
    (λ t. rw t (more_index n (n + 1) (omega arith) i h.0.1, change_ranged n name f is k h.1))

put_ranged : (n : ℕ) (name : List ℕ) (f : Index → Index) (is : List Index) (b : Bool) →
    ((i : Index) → Both n i → IndexRanged (n + 1) (f i)) → AllByRecursion (Both n) is →
    AllByRecursion (IndexRanged (n + 1)) (if b then change index_name name f is else insert index_name (f (fresh_index name)) is)
put_ranged n name f is true k h = change_ranged n name f is k h
put_ranged n name f is false k h = all_put (IndexRanged (n + 1)) (stands_before index_name) (f (fresh_index name)) is
    (k (fresh_index name) (tt, tt)) (more_indexes n is h)

to_ranged : (force : List Kept) (moment : ℤ) (s : Catalog) (event : Event) (o : Option (List ℕ)) → IsMoment moment → AreRanged s →
    AllByRecursion (IndexRanged (deal_to force moment s event o).counts.placed) (deal_to force moment s event o).indexes
to_ranged force moment s event None m h = h.each
to_ranged force moment s event (Some name) m h =
    put_ranged s.counts.placed name (filled force moment s.next_file (s.counts.placed + 1) (named name event)) s.indexes
    (is_some (find index_name name s.indexes))
    (λ i p. placed_ranged s.counts.placed (limits force i.name) s.next_file (named name event) moment i.slots m
    (goes i.name (limits force i.name) s.next_file (named name event) (s.counts.placed + 1) moment i.slots p.0) p.1)
    (all_both s.counts.placed s.indexes h.sound h.each)

deal_ranged : (force : List Kept) (moment : ℤ) (s : Catalog) (o : Routed) → IsMoment moment → AreRanged s →
    AllByRecursion (IndexRanged (deal force moment s o).counts.placed) (deal force moment s o).indexes
deal_ranged force moment s (To event) m h = to_ranged force moment s event (home force event.index) m h
deal_ranged force moment s Null m h = h.each

deals_ranged : (force : List Kept) (moment : ℤ) (s : Catalog) (os : List Routed) → IsMoment moment → AreRanged s →
    AreRanged (deal_all force moment s os)
deals_ranged force moment s [] m h = h
deals_ranged force moment s (o ∷ os) m h =
    deals_ranged force moment (deal force moment s o) os m
    (record { sound = keeps_sound.deals force moment s o h.sound; each = deal_ranged force moment s o m h })

moves_ranged : (force : List Kept) (command : Command) (moment : ℤ) (s : Catalog) → IsMoment moment → AreRanged s →
    AreRanged (moves force command moment s)
moves_ranged force (Begin channel meta) moment s m h = h
moves_ranged force (Block channel bytes spot) moment s m h = h
moves_ranged force (End channel) moment s m h = h
moves_ranged force Tick moment s m h = record {
  sound = keeps_sound.ticks force moment s h.sound;
  each = indexes_turned s.counts.placed force moment s.next_file s.indexes m h.each;
}
moves_ranged force (Roll index) moment s m h = record {
  sound = keeps_sound.rolls index s h.sound;
  each = all_change (IndexRanged s.counts.placed) index_name index closed_index s.indexes h.each
      (λ i p. closed_ranged s.counts.placed i.slots p);
}
moves_ranged force (Thaw index id) moment s m h = record {
  sound = keeps_sound.thaws index id s h.sound;
  each = all_change (IndexRanged s.counts.placed) index_name index (thawed_index id s.next_file) s.indexes h.each
      (λ i p. all_update (SlotRanged s.counts.placed) id (thawed_slot s.next_file) i.slots
      (λ x q. thawing_ranged s.counts.placed s.next_file x.standing q) p);
}
moves_ranged force (Configure config) moment s m h = h
moves_ranged force (Direct events) moment s m h = h

-- ---- histories

from_ranged : (choose : Chooser) (m : State) (history : List TimedCommand) → pos 0 ≤ℤ m.last → m.last ≤ℤ latest → AreRanged m.catalog →
    AreRanged (after_from choose m history).catalog
from_ranged choose m [] a b h = h
from_ranged choose m (o ∷ history) a b h =
    let moment = effective m.last o.moment in
    let p = not_earlier m.last o.moment a in
    let q = not_later m.last o.moment b in
    let is = range_moment moment p q in
    from_ranged choose (step choose m o) history p q
    (moves_ranged m.force o.command moment (deal_all m.force moment m.catalog (outcomes choose m o.command moment)) is
    (deals_ranged m.force moment m.catalog (outcomes choose m o.command moment) is h))

pub ranged_after : (choose : Chooser) (history : List TimedCommand) → AreRanged (state_after choose history).catalog
ranged_after choose history = from_ranged choose empty history (omega (arith, ints)) (omega (arith, ints))
    (record { sound = tt; each = tt })
