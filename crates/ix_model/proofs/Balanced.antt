-- Nothing is lost or made.
use Rattle.std.proofs.Common.{◌≡◌, ℕ, zero, suc, ◌+◌, ℤ, List, [], ◌∷◌, length, map, refl, sym, ap, ◌∙◌, arith, inl, inr}
use Rattle.std.specs.Prelude.{Option, Some, None, ◌⊎◌, slice_get, option_to_list, unwrap_or}
use Rattle.std.specs.List.{AllByRecursion, sum_by}
use Rattle.std.proofs.lemmas.List.{length_push}
use Rattle.std.proofs.lemmas.List.Sums.{sum_by-cons, sum_by-append}
use Rattle.ix_base.specs.declared.events.Event.{Event}
use Rattle.ix_base.specs.declared.events.Routed.{Routed}
use Rattle.ix_base.specs.declared.events.Routed.TheVariants.{To, Null}
use Rattle.ix_items.specs.declared.items.Bucket.{Bucket}
use Rattle.ix_items.specs.declared.items.Entry.{Entry}
use Rattle.ix_items.specs.declared.items.Kept.{Kept}
use Rattle.ix_life.specs.declared.limits.Limits.{Limits}
use Rattle.ix_model.specs.Balance.{stored, IsBalanced}
use Rattle.ix_model.specs.Balance as balance
use Rattle.ix_model.specs.Buckets.{Standing, live, frozen, Slot, Index, live_bucket, entered, live_buckets, ledger}
use Rattle.ix_model.specs.Given.{Chooser, home, limits}
use Rattle.ix_model.specs.Keeping.{turned, file_behind, closed_slot, thawed_slot}
use Rattle.ix_catalog.specs.Buckets.{Turn}
use Rattle.ix_model.specs.Keeping as kept
use Rattle.ix_catalog.specs.Lists.{find, update, change}
use Rattle.ix_model.specs.Placed.{rolled_slot, filled_slot, made_slot, roll, placed}
use Rattle.ix_model.specs.State.{Catalog, index_name, fresh_index, empty}
use Rattle.ix_model.specs.Step.{filled, deal_to, deal, turn_in, files_taken, all_turned, tick, closed_index, thaw, thawed_index}
use Rattle.ix_model.specs.Step.{state_after}
use Rattle.ix_catalog.specs.Buckets.{named}
use Rattle.ix_model.specs.Step as steps
use Rattle.ix_model.specs.Sums.{IsStandingOf, AreSoundFrom, IsSound}
use Rattle.ix_model.specs.declared.commands.TimedCommand.{TimedCommand}
use Rattle.ix_model.proofs.Named.{sum_change, sum_change_or_insert, change_none, all_found}
use Rattle.ix_model.proofs.Placing.{GoesInto, GoesBehind, goes}
use Rattle.ix_model.proofs.Stepping.{Keeps, keeps_after, AllSound, keeps_sound}

-- ---- sums over the buckets of an index

none_some : {X : Type 0} {x : X} → None ≡ Some x → ⊥
none_some e = cc

some_same : {A : Type 0} (x y : A) → Some x ≡ Some y → x ≡ y
some_same x y e = cc

shift : (a b c d e : ℕ) → a + c ≡ b + d → (e + a) + c ≡ (e + b) + d
shift a b c d e h = omega (arith, h)

-- what a change at a place makes of a sum
pub sum_update : (g : Slot → ℕ) (k : ℕ) (f : Slot → Slot) (s : Slot) (slots : List Slot) → slice_get slots k ≡ Some s →
    sum_by g (update k f slots) + g s ≡ sum_by g slots + g (f s)
sum_update g k f s [] e = absurd (none_some e)
sum_update g zero f s (x ∷ slots) e =
    let a : g x ≡ g s = ap g (some_same x s e) in
    let b : g (f x) ≡ g (f s) = ap (λ (z : Slot). g (f z)) (some_same x s e) in
    rw (sum_by-cons g (f x) slots, sum_by-cons g x slots) (omega (arith, a, b))
sum_update g (suc k) f s (x ∷ slots) e =
    rw (sum_by-cons g x (update k f slots), sum_by-cons g x slots)
    (shift (sum_by g (update k f slots)) (sum_by g slots) (g s) (g (f s)) (g x) (sum_update g k f s slots e))

pub sum_update_same : (g : Slot → ℕ) (k : ℕ) (f : Slot → Slot) → ((s : Slot) → g (f s) ≡ g s) → (slots : List Slot) →
    sum_by g (update k f slots) ≡ sum_by g slots
sum_update_same g k f e [] = refl
sum_update_same g zero f e (x ∷ slots) = rw (sum_by-cons g (f x) slots, sum_by-cons g x slots) (ap (λ (n : ℕ). n + sum_by g slots) (e x))
sum_update_same g (suc k) f e (x ∷ slots) =
    rw (sum_by-cons g x (update k f slots), sum_by-cons g x slots) (ap (λ (n : ℕ). g x + n) (sum_update_same g k f e slots))

-- how many events the buckets have, those that are frozen too
abbrev many : Slot → ℕ
many s = length s.events

abbrev held : Index → ℕ
held i = sum_by many i.slots

rolled_many : (o : Option ℕ) (slots : List Slot) → sum_by many (roll o slots) ≡ sum_by many slots
rolled_many None slots = refl
rolled_many (Some k) slots = sum_update_same many k rolled_slot (λ s. refl) slots

placed_by : (limits : Limits) (file : ℕ) (event : Event) (used : ℕ) (moment : ℤ) (slots : List Slot) →
    GoesInto limits file event used moment slots ⊎ GoesBehind limits file event used moment slots →
    sum_by many (placed limits file event used moment slots) ≡ sum_by many slots + 1
placed_by limits file event used moment slots (inl g) =
    ap (sum_by many) g.comes_to
    ∙ (let a = sum_update many g.place (filled_slot limits event used moment) g.slot slots g.found in
    let b = length_push g.slot.events event in
    omega (arith, a, b))
placed_by limits file event used moment slots (inr g) =
    ap (sum_by many) g.comes_to
    ∙ sum_by-append many (roll g.rolls slots) (made_slot limits (length (roll g.rolls slots)) g.quarantine file event used moment ∷ [])
    ∙ ap (λ (n : ℕ). n + 1) (rolled_many g.rolls slots)

turned_many : (t : Turn) (file : ℕ) (slots : List Slot) → sum_by many (kept.all_turned t file slots) ≡ sum_by many slots
turned_many t file [] = refl
turned_many t file (s ∷ slots) =
    rw (
      sum_by-cons many (record { events = s.events; standing = turned t file s.standing })
          (kept.all_turned t (file_behind t file s.standing) slots),
      sum_by-cons many s slots,
    )
    (ap (λ (n : ℕ). length s.events + n) (turned_many t (file_behind t file s.standing) slots))

closed_many : (slots : List Slot) → sum_by many (map closed_slot slots) ≡ sum_by many slots
closed_many [] = refl
closed_many (s ∷ slots) =
    rw (
      sum_by-cons many (closed_slot s) (map closed_slot slots),
      sum_by-cons many s slots,
    ) (ap (λ (n : ℕ). length s.events + n) (closed_many slots))

-- ---- all indexes

pub record IsEven (s : Catalog) : Type 0 where
  pub sound : AllSound s
  pub settled : s.counts.settled ≡ (s.counts.placed + s.counts.nulled) + s.counts.dropped
  pub placed : s.counts.placed ≡ sum_by held s.indexes

sound_or_fresh : (name : List ℕ) (is : List Index) (o : Option Index) → AllByRecursion IsSound is → find index_name name is ≡ o →
    AreSoundFrom (unwrap_or o (fresh_index name)).name 0 (unwrap_or o (fresh_index name)).slots
sound_or_fresh name is None h e = tt
sound_or_fresh name is (Some i) h e = all_found IsSound index_name name i is h e

even_to : (force : List Kept) (moment : ℤ) (s : Catalog) (event : Event) (o : Option (List ℕ)) → AllSound (deal_to force moment s event o) →
    IsEven s →
    IsEven (deal_to force moment s event o)
even_to force moment s event None sound h = record { sound = h.sound; settled = omega (arith, h.settled); placed = h.placed }
even_to force moment s event (Some name) sound h = record {
  sound = sound;
  settled = omega (arith, h.settled);
  placed =
      (let i : Index = unwrap_or (find index_name name s.indexes) (fresh_index name) in
      let more = placed_by (limits force i.name) s.next_file (named name event) (s.counts.placed + 1) moment i.slots
      (goes i.name (limits force i.name) s.next_file (named name event) (s.counts.placed + 1) moment i.slots
      (sound_or_fresh name s.indexes (find index_name name s.indexes) h.sound refl)) in
      ap (λ (n : ℕ). n + 1) h.placed
      ∙ sym (sum_change_or_insert index_name name (filled force moment s.next_file (s.counts.placed + 1) (named name event))
      (fresh_index name) held 1 s.indexes
      refl more));
}

even_deal : (force : List Kept) (moment : ℤ) (s : Catalog) (o : Routed) → IsEven s → IsEven (deal force moment s o)
even_deal force moment s (To event) h =
    even_to force moment s event (home force event.index) (keeps_sound.deals force moment s (To event) h.sound) h
even_deal force moment s Null h = record { sound = h.sound; settled = omega (arith, h.settled); placed = h.placed }

turns_even : (force : List Kept) (moment : ℤ) (file : ℕ) (is : List Index) → sum_by held (all_turned force moment file is) ≡ sum_by held is
turns_even force moment file [] = refl
turns_even force moment file (i ∷ is) =
    rw (
      sum_by-cons held (steps.turned_index force moment file i) (all_turned force moment (file + files_taken force moment i) is),
      sum_by-cons held i is,
    )
    (let a = turned_many (turn_in force moment i) file i.slots in
    let b = turns_even force moment (file + files_taken force moment i) is in
    omega (arith, a, b))

-- a change of the index of a name that keeps what is summed
pub change_same : (g : Index → ℕ) (name : List ℕ) (f : Index → Index) → ((i : Index) → g (f i) ≡ g i) →
    (is : List Index) (o : Option Index) → find index_name name is ≡ o →
    sum_by g (change index_name name f is) ≡ sum_by g is
change_same g name f e is None at = ap (sum_by g) (change_none index_name name f is at)
change_same g name f e is (Some i) at = let a = sum_change index_name name f g i is at in let b = e i in omega (arith, a, b)

keeps_even : Keeps IsEven
keeps_even = record {
  deals = even_deal;
  ticks = λ force moment s h. record {
    sound = keeps_sound.ticks force moment s h.sound;
    settled = h.settled;
    placed = h.placed ∙ sym (turns_even force moment s.next_file s.indexes);
  };
  rolls = λ index s h. record {
    sound = keeps_sound.rolls index s h.sound;
    settled = h.settled;
    placed = h.placed ∙ sym (change_same held index closed_index (λ i. closed_many i.slots) s.indexes (find index_name index s.indexes)
        refl);
  };
  thaws = λ index id s h. record {
    sound = keeps_sound.thaws index id s h.sound;
    settled = h.settled;
    placed = h.placed ∙ sym (change_same held index (thawed_index id s.next_file)
        (λ i. sum_update_same many id (thawed_slot s.next_file) (λ t. refl) i.slots) s.indexes (find index_name index s.indexes) refl);
  };
}

even_after : (choose : Chooser) (h : List TimedCommand) → IsEven (state_after choose h).catalog
even_after choose h = keeps_after IsEven keeps_even choose empty h (record { sound = tt; settled = refl; placed = refl })

-- ---- by the fields

one_by : (index : List ℕ) (id : ℕ) (events : List Event) (standing : Standing) → IsStandingOf index id events standing →
    length events ≡ sum_by (λ (b : Bucket). b.count) (option_to_list (live_bucket standing)) + sum_by (λ (e : Entry). e.count)
    (option_to_list (entered standing))
one_by index id events (live b) h = let c = h.is_of.sums.count_is in omega (arith, c)
one_by index id events (frozen e other) h = let c = h.0.sums.count_is in omega (arith, c)

by_fields : (index : List ℕ) (id : ℕ) (slots : List Slot) → AreSoundFrom index id slots →
    sum_by many slots ≡ sum_by (λ (b : Bucket). b.count) (live_buckets slots) + sum_by (λ (e : Entry). e.count) (ledger slots)
by_fields index id [] h = refl
by_fields index id (s ∷ slots) h =
    rw (
      sum_by-cons many s slots,
      sum_by-append (λ (b : Bucket). b.count) (option_to_list (live_bucket s.standing)) (live_buckets slots),
      sum_by-append (λ (e : Entry). e.count) (option_to_list (entered s.standing)) (ledger slots),
    )
    (let a = one_by index id s.events s.standing h.0 in
    let b = by_fields index (suc id) slots h.1 in
    omega (arith, a, b))

all_fields : (is : List Index) → AllByRecursion IsSound is → sum_by held is ≡ sum_by stored is + sum_by balance.frozen is
all_fields [] h = refl
all_fields (i ∷ is) h =
    rw (sum_by-cons held i is, sum_by-cons stored i is, sum_by-cons balance.frozen i is)
    (let a = by_fields i.name 0 i.slots h.0 in
    let b = all_fields is h.1 in
    omega (arith, a, b))

pub balanced_after : (choose : Chooser) (h : List TimedCommand) → IsBalanced (state_after choose h).catalog
balanced_after choose h =
    let e = even_after choose h in
    let f = all_fields (state_after choose h).catalog.indexes e.sound in
    record {
      settled = (let a = e.settled in let b = e.placed in omega (arith, a, b, f));
      placed = e.placed ∙ f;
    }
