-- The ledger has the entries of all that is frozen, and only grows.
use Rattle.std.proofs.Common.{◌≡◌, ◌≢◌, ℕ, ◌+◌, ℤ, List, [], ◌∷◌, ◌++◌, length, map, refl, sym, ap, ◌∙◌, arith, inl, inr, append_assoc}
use Rattle.std.specs.Prelude.{Option, Some, None, ◌⊎◌, option_to_list, unwrap_or}
use Rattle.std.specs.List.{AllByRecursion, sum_by}
use Rattle.std.proofs.lemmas.List.{append-nil}
use Rattle.std.proofs.lemmas.List.Sums.{sum_by-cons, sum_by-append}
use Rattle.ix_base.specs.declared.events.Event.{Event}
use Rattle.ix_base.specs.declared.events.Routed.{Routed}
use Rattle.ix_base.specs.declared.events.Routed.TheVariants.{To, Null}
use Rattle.ix_items.specs.declared.items.Bucket.{Bucket}
use Rattle.ix_items.specs.declared.items.Entry.{Entry}
use Rattle.ix_items.specs.declared.items.Kept.{Kept}
use Rattle.ix_life.specs.declared.limits.Limits.{Limits}
use Rattle.ix_model.specs.Buckets.{Standing, live, frozen, Slot, Index, entered, ledger}
use Rattle.ix_model.specs.Given.{Chooser, home, limits}
use Rattle.ix_model.specs.Keeping.{closed_slot, thawing, thawed_by, thawed_slot}
use Rattle.ix_model.specs.Keeping as kept
use Rattle.ix_model.specs.Ledger.{AreSame, all_frozen, AreBefore}
use Rattle.ix_catalog.specs.Lists.{find}
use Rattle.ix_model.specs.Placed.{change_live, rolled_slot, filled_slot, made_slot, roll, placed}
use Rattle.ix_model.specs.Shown.{whole_ledger}
use Rattle.ix_model.specs.State.{State, Catalog, index_name, fresh_index, empty}
use Rattle.ix_model.specs.Step.{filled, deal_to, deal, deal_all, outcomes, files_taken, all_turned, entries_in, all_entries, tick}
use Rattle.ix_model.specs.Step.{closed_index, thaw, thawed_index, moves, stepped, after_from, state_after}
use Rattle.ix_catalog.specs.Buckets.{named}
use Rattle.ix_model.specs.Step as steps
use Rattle.ix_model.specs.Sums.{AreSoundFrom, IsSound}
use Rattle.ix_model.specs.declared.commands.Command.{Command}
use Rattle.ix_model.specs.declared.commands.Command.TheVariants.{Begin, Block, End, Tick, Roll, Thaw, Configure, Direct}
use Rattle.ix_model.specs.declared.commands.TimedCommand.{TimedCommand}
use Rattle.ix_model.proofs.Balanced.{sum_update_same, change_same}
use Rattle.ix_model.proofs.Freezing.{flat_sum, gain, gained, house_adds}
use Rattle.ix_model.proofs.Named.{sum_change_or_insert, all_found}
use Rattle.ix_model.proofs.Placing.{GoesInto, GoesBehind, goes}
use Rattle.ix_model.proofs.Stepping.{Keeps, keeps_after, AllSound, keeps_sound}

-- ---- what is placed, rolled or thawed leaves the entries of the frozen buckets

abbrev pub gains : (Entry → ℕ) → Index → ℕ
gains g i = sum_by (gained g) i.slots

changed_gain : (g : Entry → ℕ) (f : Bucket → Bucket) (standing : Standing) → gain g (change_live f standing) ≡ gain g standing
changed_gain g f (live b) = refl
changed_gain g f (frozen e other) = refl

rolled_gains : (g : Entry → ℕ) (o : Option ℕ) (slots : List Slot) → sum_by (gained g) (roll o slots) ≡ sum_by (gained g) slots
rolled_gains g None slots = refl
rolled_gains g (Some k) slots = sum_update_same (gained g) k rolled_slot (λ s. changed_gain g _ s.standing) slots

placed_gains : (g : Entry → ℕ) (limits : Limits) (file : ℕ) (event : Event) (used : ℕ) (moment : ℤ) (slots : List Slot) →
    GoesInto limits file event used moment slots ⊎ GoesBehind limits file event used moment slots →
    sum_by (gained g) (placed limits file event used moment slots) ≡ sum_by (gained g) slots + 0
placed_gains g limits file event used moment slots (inl p) =
    let a = ap (sum_by (gained g)) p.comes_to in
    let b = sum_update_same (gained g) p.place (filled_slot limits event used moment) (λ s. changed_gain g _ s.standing) slots in
    omega (arith, a, b)
placed_gains g limits file event used moment slots (inr p) =
    let a = ap (sum_by (gained g)) p.comes_to in
    let b = sum_by-append (gained g) (roll p.rolls slots)
    (made_slot limits (length (roll p.rolls slots)) p.quarantine file event used moment ∷ []) in
    let c = rolled_gains g p.rolls slots in
    omega (arith, a, b, c)

closed_gains : (g : Entry → ℕ) (slots : List Slot) → sum_by (gained g) (map closed_slot slots) ≡ sum_by (gained g) slots
closed_gains g [] = refl
closed_gains g (s ∷ slots) =
    let a = sum_by-cons (gained g) (closed_slot s) (map closed_slot slots) in
    let b = sum_by-cons (gained g) s slots in
    let c = changed_gain g kept.closed s.standing in
    let d = closed_gains g slots in
    omega (arith, a, b, c, d)

thawed_gain : (g : Entry → ℕ) (e : Entry) (archive : Option ℕ) (file : ℕ) (other : Option Bucket) →
    gain g (thawed_by e archive file other) ≡ gain g (frozen e other)
thawed_gain g e None file other = refl
thawed_gain g e (Some archive) file (Some b) = refl
thawed_gain g e (Some archive) file None = refl

thaws_gain : (g : Entry → ℕ) (file : ℕ) (standing : Standing) → gain g (thawing file standing) ≡ gain g standing
thaws_gain g file (live b) = refl
thaws_gain g file (frozen e other) = thawed_gain g e e.archive file other

turned_gains : (g : Entry → ℕ) (force : List Kept) (moment : ℤ) (file : ℕ) (is : List Index) → AllByRecursion IsSound is →
    sum_by (gains g) (all_turned force moment file is) ≡ sum_by (gains g) is + sum_by g (all_entries force moment file is)
turned_gains g force moment file [] h = refl
turned_gains g force moment file (i ∷ is) h =
    let next = file + files_taken force moment i in
    let a = sum_by-cons (gains g) (steps.turned_index force moment file i) (all_turned force moment next is) in
    let b = sum_by-cons (gains g) i is in
    let c = sum_by-append g (entries_in force moment file i) (all_entries force moment next is) in
    let d = house_adds g i.name (limits force i.name).archive moment (record { limits = limits force i.name; moment = moment }) file i.slots
    h.0 in
    let e = turned_gains g force moment next is h.1 in
    omega (arith, a, b, c, d, e)

-- ---- histories

pub record HasAll (s : Catalog) : Type 0 where
  pub sound : AllSound s
  pub entries : (g : Entry → ℕ) → sum_by g s.ledger ≡ sum_by (gains g) s.indexes

pub sound_or_fresh : (name : List ℕ) (is : List Index) (o : Option Index) → AllByRecursion IsSound is → find index_name name is ≡ o →
    AreSoundFrom (unwrap_or o (fresh_index name)).name 0 (unwrap_or o (fresh_index name)).slots
sound_or_fresh name is None h e = tt
sound_or_fresh name is (Some i) h e = all_found IsSound index_name name i is h e

to_entries : (force : List Kept) (moment : ℤ) (s : Catalog) (event : Event) (o : Option (List ℕ)) → HasAll s → (g : Entry → ℕ) →
    sum_by g (deal_to force moment s event o).ledger ≡ sum_by (gains g) (deal_to force moment s event o).indexes
to_entries force moment s event None h g = h.entries g
to_entries force moment s event (Some name) h g =
    let i : Index = unwrap_or (find index_name name s.indexes) (fresh_index name) in
    let more = placed_gains g (limits force i.name) s.next_file (named name event) (s.counts.placed + 1) moment i.slots
    (goes i.name (limits force i.name) s.next_file (named name event) (s.counts.placed + 1) moment i.slots
    (sound_or_fresh name s.indexes (find index_name name s.indexes) h.sound refl)) in
    let a = sum_change_or_insert index_name name (filled force moment s.next_file (s.counts.placed + 1) (named name event))
    (fresh_index name) (gains g) 0 s.indexes
    refl more in
    let b = h.entries g in
    omega (arith, a, b)

deal_entries : (force : List Kept) (moment : ℤ) (s : Catalog) (o : Routed) → HasAll s → (g : Entry → ℕ) →
    sum_by g (deal force moment s o).ledger ≡ sum_by (gains g) (deal force moment s o).indexes
deal_entries force moment s (To event) h g = to_entries force moment s event (home force event.index) h g
deal_entries force moment s Null h g = h.entries g

pub keeps_all : Keeps HasAll
keeps_all = record {
  deals = λ force moment s o h. record {
    sound = keeps_sound.deals force moment s o h.sound;
    entries = deal_entries force moment s o h;
  };
  ticks = λ force moment s h. record {
    sound = keeps_sound.ticks force moment s h.sound;
    entries = λ g. (let a = sum_by-append g s.ledger (all_entries force moment s.next_file s.indexes) in
        let b = h.entries g in
        let c = turned_gains g force moment s.next_file s.indexes h.sound in
        omega (arith, a, b, c));
  };
  rolls = λ index s h. record {
    sound = keeps_sound.rolls index s h.sound;
    entries = λ g. h.entries g ∙ sym (change_same (gains g) index closed_index (λ i. closed_gains g i.slots) s.indexes
        (find index_name index s.indexes) refl);
  };
  thaws = λ index id s h. record {
    sound = keeps_sound.thaws index id s h.sound;
    entries = λ g. h.entries g ∙ sym (change_same (gains g) index (thawed_index id s.next_file)
        (λ i. sum_update_same (gained g) id (thawed_slot s.next_file) (λ t. thaws_gain g s.next_file t.standing) i.slots) s.indexes
        (find index_name index s.indexes) refl);
  };
}

pub all_after : (choose : Chooser) (history : List TimedCommand) → HasAll (state_after choose history).catalog
all_after choose history = keeps_after HasAll keeps_all choose empty history (record { sound = tt; entries = λ g. refl })

pub gains_sum : (g : Entry → ℕ) (is : List Index) → sum_by g (all_frozen is) ≡ sum_by (gains g) is
gains_sum g [] = refl
gains_sum g (i ∷ is) =
    let a = sum_by-append g (ledger i.slots) (all_frozen is) in
    let b = flat_sum g (λ (s : Slot). option_to_list (entered s.standing)) i.slots in
    let c = sum_by-cons (gains g) i is in
    let d = gains_sum g is in
    omega (arith, a, b, c, d)

pub same_entries : (s : Catalog) → HasAll s → AreSame s.ledger (all_frozen s.indexes)
same_entries s h = λ g. h.entries g ∙ sym (gains_sum g s.indexes)

ones : (es : List Entry) → length es ≡ sum_by (λ (e : Entry). 1) es
ones [] = refl
ones (e ∷ es) = let a = sum_by-cons (λ (x : Entry). 1) e es in let b = ones es in omega (arith, a, b)

pub same_length : (a b : List Entry) → AreSame a b → length a ≡ length b
same_length a b h = ones a ∙ h (λ (e : Entry). 1) ∙ sym (ones b)

-- ---- the ledger only grows

to_grows : (force : List Kept) (moment : ℤ) (s : Catalog) (event : Event) (o : Option (List ℕ)) →
    (deal_to force moment s event o).ledger ≡ s.ledger
to_grows force moment s event None = refl
to_grows force moment s event (Some name) = refl

pub deal_grows : (force : List Kept) (moment : ℤ) (s : Catalog) (o : Routed) → (deal force moment s o).ledger ≡ s.ledger
deal_grows force moment s (To event) = to_grows force moment s event (home force event.index)
deal_grows force moment s Null = refl

all_dealt : (force : List Kept) (moment : ℤ) (s : Catalog) (os : List Routed) → (deal_all force moment s os).ledger ≡ s.ledger
all_dealt force moment s [] = refl
all_dealt force moment s (o ∷ os) = all_dealt force moment (deal force moment s o) os ∙ deal_grows force moment s o

others_keep : (force : List Kept) (command : Command) (moment : ℤ) (s : Catalog) → command ≢ Tick →
    (moves force command moment s).ledger ≡ s.ledger
others_keep force (Begin channel meta) moment s d = refl
others_keep force (Block channel bytes spot) moment s d = refl
others_keep force (End channel) moment s d = refl
others_keep force Tick moment s d = absurd (d refl)
others_keep force (Roll index) moment s d = refl
others_keep force (Thaw index id) moment s d = refl
others_keep force (Configure config) moment s d = refl
others_keep force (Direct events) moment s d = refl

pub ticks_alone : (choose : Chooser) (m : State) (command : Command) (moment : ℤ) → command ≢ Tick →
    whole_ledger (stepped choose m command moment) ≡ whole_ledger m
ticks_alone choose m command moment d =
    others_keep m.force command moment (deal_all m.force moment m.catalog (outcomes choose m command moment)) d
    ∙ all_dealt m.force moment m.catalog (outcomes choose m command moment)

abbrev IsBehind : List Entry → Catalog → Type 0
IsBehind base s = AreBefore base s.ledger

keeps_before : (base : List Entry) → Keeps (IsBehind base)
keeps_before base = record {
  deals = λ force moment s o h. (h.0, deal_grows force moment s o ∙ h.1);
  ticks = λ force moment s h. (
    h.0 ++ all_entries force moment s.next_file s.indexes,
    ap (λ (l : List Entry). l ++ all_entries force moment s.next_file s.indexes) h.1
        ∙ append_assoc base h.0 (all_entries force moment s.next_file s.indexes),
  );
  rolls = λ index s h. h;
  thaws = λ index id s h. h;
}

pub grows_after : (choose : Chooser) (m : State) (history : List TimedCommand) →
    AreBefore (whole_ledger m) (whole_ledger (after_from choose m history))
grows_after choose m history =
    keeps_after (IsBehind m.catalog.ledger) (keeps_before m.catalog.ledger) choose m history ([], sym (append-nil m.catalog.ledger))
