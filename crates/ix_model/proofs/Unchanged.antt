-- Where the listed buckets of an index do not change, it has as many buckets as before; and no
-- index is without one.
use Rattle.std.proofs.Common.{◌≡◌, ◌<◌, ℕ, zero, suc, ◌+◌, ◌==◌, ℤ, Bool, true, false, List, [], ◌∷◌, ◌++◌, map, length, refl, sym, ap}
use Rattle.std.proofs.Common.{◌∙◌, arith, nat_lt, inl, inr, length-append}
use Rattle.std.specs.Prelude.{Option, Some, None, ◌⊎◌, if◌then◌else◌, is_some, unwrap_or, slice_get, bytes_eq}
use Rattle.std.specs.List.{AllByRecursion}
use Rattle.ix_base.specs.declared.events.Event.{Event}
use Rattle.ix_base.specs.declared.events.Routed.{Routed}
use Rattle.ix_base.specs.declared.events.Routed.TheVariants.{To, Null}
use Rattle.ix_items.specs.declared.items.Bucket.{Bucket}
use Rattle.ix_items.specs.declared.items.Item.{Item}
use Rattle.ix_items.specs.declared.items.Item.TheVariants as items
use Rattle.ix_items.specs.declared.items.Kept.{Kept}
use Rattle.ix_life.specs.declared.limits.Limits.{Limits}
use Rattle.ix_model.specs.Buckets.{Slot, Index}
use Rattle.ix_model.specs.Given.{Chooser, home, limits}
use Rattle.ix_model.specs.Keeping as kept
use Rattle.ix_model.specs.Keeping.{closed_slot, file_behind}
use Rattle.ix_model.specs.Placed.{filled_slot, made_slot, roll, placed}
use Rattle.ix_model.specs.State.{Catalog, index_name, fresh_index, slots_in, empty}
use Rattle.ix_model.specs.Step.{filled, deal_to, deal, turn_in, turned_index, files_taken, all_turned, closed_index, thawed_index}
use Rattle.ix_model.specs.Step.{state_after}
use Rattle.ix_model.specs.Sums.{IsSound}
use Rattle.ix_model.specs.declared.commands.TimedCommand.{TimedCommand}
use Rattle.ix_model.proofs.Named.{by_test, all_change, all_put}
use Rattle.ix_model.proofs.Placing.{GoesInto, GoesBehind, goes}
use Rattle.ix_model.proofs.Stepping.{Keeps, keeps_after, AllSound, keeps_sound}
use Rattle.ix_catalog.specs.Buckets.{Turn, named}
use Rattle.ix_catalog.specs.Changes.{changed, is_same}
use Rattle.ix_catalog.specs.Lists.{find, update, change, insert, stands_before}
use Rattle.ix_catalog.proofs.Merging.{at_two, two_is}
use Rattle.ix_catalog.proofs.Same.{same_decides}

-- ---- changes that say nothing

no_item : {x : Item} {xs : List Item} → x ∷ xs ≡ [] → ⊥
no_item e = cc

pub nothing_changed : (name : List ℕ) (old new : List Bucket) → changed name old new ≡ [] → old ≡ new
nothing_changed name [] [] e = refl
nothing_changed name [] (c ∷ cs) e = absurd (no_item e)
nothing_changed name (b ∷ bs) [] e = absurd (no_item e)
nothing_changed name (b ∷ bs) (c ∷ cs) e =
    two (b.id == c.id) (nat_lt b.id c.id) (is_same b c) refl (sym (two_is name b bs c cs (b.id == c.id) (nat_lt b.id c.id) refl refl)
    ∙ e) (nothing_changed name bs cs)
  where
    kept_items : Bool → List Item
    kept_items same = if same then [] else items.Bucket name c ∷ []

    both : (same : Bool) → is_same b c ≡ same → kept_items same ++ changed name bs cs ≡ [] → (changed name bs cs ≡ [] → bs ≡ cs) → b
        ∷ bs ≡ c ∷ cs
    both true s k rest = (λ i. (same_decides b c).0 s i ∷ rest k i)
    both false s k rest = absurd (no_item k)

    two : (same less t : Bool) → is_same b c ≡ t → at_two name b bs c cs same less ≡ [] → (changed name bs cs ≡ [] → bs ≡ cs) → b ∷ bs ≡ c
        ∷ cs
    two true less t s k rest = both t s (ap (λ (u : Bool). kept_items u ++ changed name bs cs) (sym s) ∙ k) rest
    two false true t s k rest = absurd (no_item k)
    two false false t s k rest = absurd (no_item k)

-- ---- a turn leaves as many buckets

length_turned : (t : Turn) (file : ℕ) (slots : List Slot) → length (kept.all_turned t file slots) ≡ length slots
length_turned t file [] = refl
length_turned t file (s ∷ slots) = let e = length_turned t (file_behind t file s.standing) slots in omega (arith, e)

pub turn_keeps : (force : List Kept) (moment : ℤ) (file : ℕ) (is : List Index) (name : List ℕ) →
    length (slots_in (all_turned force moment file is) name) ≡ length (slots_in is name)
turn_keeps force moment file [] name = refl
turn_keeps force moment file (i ∷ is) name = by (bytes_eq i.name name) (turn_keeps force moment (file + files_taken force moment i) is name)
  where
    rest : List Index
    rest = all_turned force moment (file + files_taken force moment i) is

    by : (b : Bool) → length (slots_in rest name) ≡ length (slots_in is name) →
        length (unwrap_or (if b then Some (turned_index force moment file i) else find index_name name rest) (fresh_index name)).slots
        ≡ length (unwrap_or (if b then Some i else find index_name name is) (fresh_index name)).slots
    by true e = length_turned (turn_in force moment i) file i.slots
    by false e = e

-- ---- each index has a bucket

length_update : (k : ℕ) (f : Slot → Slot) (slots : List Slot) → length (update k f slots) ≡ length slots
length_update k f [] = refl
length_update zero f (s ∷ slots) = refl
length_update (suc k) f (s ∷ slots) = let e = length_update k f slots in omega (arith, e)

abbrev pub HasSome : Index → Type 0
HasSome i = 0 < length i.slots

none_there : (slots : List Slot) (k : ℕ) (s : Slot) → slice_get slots k ≡ Some s → 0 < length slots
none_there [] k s e = absurd (nothing e)
  where
    nothing : None ≡ Some s → ⊥
    nothing q = cc
none_there (x ∷ slots) k s e = omega arith

placed_some : (lim : Limits) (file : ℕ) (event : Event) (used : ℕ) (moment : ℤ) (slots : List Slot) →
    GoesInto lim file event used moment slots ⊎ GoesBehind lim file event used moment slots →
    0 < length (placed lim file event used moment slots)
placed_some lim file event used moment slots (inl g) =
    let a = ap (λ (xs : List Slot). length xs) g.comes_to in
    let b = length_update g.place (filled_slot lim event used moment) slots in
    let c = none_there slots g.place g.slot g.found in
    omega (arith, a, b, c)
placed_some lim file event used moment slots (inr g) =
    let a = ap (λ (xs : List Slot). length xs) g.comes_to in
    let b = length-append (roll g.rolls slots) (made_slot lim (length (roll g.rolls slots)) g.quarantine file event used moment ∷ []) in
    omega (arith, a, b)

record AllSome (s : Catalog) : Type 0 where
  sound : AllSound s
  some : AllByRecursion HasSome s.indexes

filled_some : (force : List Kept) (moment : ℤ) (file used : ℕ) (event : Event) (i : Index) → IsSound i →
    HasSome (filled force moment file used event i)
filled_some force moment file used event i h =
    placed_some (limits force i.name) file event used moment i.slots (goes i.name (limits force i.name) file event used moment i.slots h)

change_some : (name : List ℕ) (f : Index → Index) (is : List Index) → ((i : Index) → IsSound i → HasSome (f i)) →
    AllByRecursion IsSound is → AllByRecursion HasSome is →
    AllByRecursion HasSome (change index_name name f is)
change_some name f [] k h g = tt
change_some name f (i ∷ is) k h g =
    by_test (bytes_eq i.name name)
    (λ t. rw t (k i h.0, g.1))
    (λ t. rw t (g.0, change_some name f is k h.1 g.1))

put_some : (name : List ℕ) (f : Index → Index) (is : List Index) (b : Bool) → ((i : Index) → IsSound i → HasSome (f i)) →
    AllByRecursion IsSound is → AllByRecursion HasSome is →
    AllByRecursion HasSome (if b then change index_name name f is else insert index_name (f (fresh_index name)) is)
put_some name f is true k h g = change_some name f is k h g
put_some name f is false k h g = all_put HasSome (stands_before index_name) (f (fresh_index name)) is (k (fresh_index name) tt) g

to_some : (force : List Kept) (moment : ℤ) (s : Catalog) (event : Event) (o : Option (List ℕ)) → AllSome s →
    AllByRecursion HasSome (deal_to force moment s event o).indexes
to_some force moment s event None h = h.some
to_some force moment s event (Some name) h =
    put_some name (filled force moment s.next_file (s.counts.placed + 1) (named name event)) s.indexes
    (is_some (find index_name name s.indexes))
    (filled_some force moment s.next_file (s.counts.placed + 1) (named name event)) h.sound h.some

deal_some : (force : List Kept) (moment : ℤ) (s : Catalog) (o : Routed) → AllSome s → AllByRecursion HasSome (deal force moment s o).indexes
deal_some force moment s (To event) h = to_some force moment s event (home force event.index) h
deal_some force moment s Null h = h.some

turn_some : (force : List Kept) (moment : ℤ) (file : ℕ) (is : List Index) → AllByRecursion HasSome is →
    AllByRecursion HasSome (all_turned force moment file is)
turn_some force moment file [] h = tt
turn_some force moment file (i ∷ is) h = (
  (let a = length_turned (turn_in force moment i) file i.slots in let b = h.0 in omega (arith, a, b)),
  turn_some force moment (file + files_taken force moment i) is h.1,
)

closed_length : (slots : List Slot) → length (map closed_slot slots) ≡ length slots
closed_length [] = refl
closed_length (s ∷ slots) = let e = closed_length slots in omega (arith, e)

keeps_some : Keeps AllSome
keeps_some = record {
  deals = λ force moment s o h. record { sound = keeps_sound.deals force moment s o h.sound; some = deal_some force moment s o h };
  ticks = λ force moment s h. record {
    sound = keeps_sound.ticks force moment s h.sound;
    some = turn_some force moment s.next_file s.indexes h.some;
  };
  rolls = λ index s h. record {
    sound = keeps_sound.rolls index s h.sound;
    some = all_change HasSome index_name index closed_index s.indexes h.some (λ i g. let a = closed_length i.slots in omega (arith, a, g));
  };
  thaws = λ index id s h. record {
    sound = keeps_sound.thaws index id s h.sound;
    some = all_change HasSome index_name index (thawed_index id s.next_file) s.indexes h.some
        (λ i g. let a = length_update id (kept.thawed_slot s.next_file) i.slots in omega (arith, a, g));
  };
}

pub some_after : (choose : Chooser) (history : List TimedCommand) → AllByRecursion HasSome (state_after choose history).catalog.indexes
some_after choose history = (keeps_after AllSome keeps_some choose empty history (record { sound = tt; some = tt })).some
