-- After every history, each index among those that ever had a bucket has one.
use Rattle.std.proofs.Common.{◌≡◌, ◌≤◌, ℕ, suc, ◌+◌, ℤ, Bool, true, false, List, [], ◌∷◌, ◌++◌, length, refl, sym, ap, subst, inl, inr}
use Rattle.std.proofs.Common.{arith}
use Rattle.std.specs.Prelude.{Option, Some, None, ◌⊎◌, if◌then◌else◌, is_some, slice_get}
use Rattle.std.specs.List.{AllByRecursion}
use Rattle.std.proofs.lemmas.List.{length-map}
use Rattle.ix_base.specs.declared.events.Event.{Event}
use Rattle.ix_base.specs.declared.events.Routed.{Routed}
use Rattle.ix_base.specs.declared.events.Routed.TheVariants.{To, Null}
use Rattle.ix_items.specs.declared.items.Kept.{Kept}
use Rattle.ix_life.specs.declared.limits.Limits.{Limits}
use Rattle.ix_model.specs.Buckets.{Slot, Index}
use Rattle.ix_model.specs.Given.{Chooser, home, limits}
use Rattle.ix_model.specs.Keeping.{file_behind, closed_slot, thawed_slot}
use Rattle.ix_model.specs.Keeping as kept
use Rattle.ix_model.specs.Placed.{filled_slot, placed, roll}
use Rattle.ix_model.specs.State.{Catalog, index_name, fresh_index, empty}
use Rattle.ix_model.specs.Step.{filled, deal_to, deal, turn_in, files_taken, all_turned, closed_index, thawed_index, state_after}
use Rattle.ix_model.specs.Sums.{IsSound}
use Rattle.ix_model.specs.declared.commands.TimedCommand.{TimedCommand}
use Rattle.ix_model.proofs.Dealing.{length_update}
use Rattle.ix_model.proofs.Named.{all_change, all_put}
use Rattle.ix_model.proofs.Placing.{GoesInto, GoesBehind, goes}
use Rattle.ix_model.proofs.Sound.{sound_placed, sound_turned, sound_closed, sound_thawed}
use Rattle.ix_model.proofs.Stepping.{Keeps, keeps_after}
use Rattle.ix_catalog.specs.Buckets.{Turn, named}
use Rattle.ix_catalog.specs.Lists.{find, change, insert, stands_before}

abbrev pub IsFilled : Index → Type 0
IsFilled i = IsSound i × (1 ≤ length i.slots)

some_at : (k : ℕ) (slots : List Slot) (s : Slot) → slice_get slots k ≡ Some s → 1 ≤ length slots
some_at k [] s e = absurd (none e)
  where
    none : {x : Slot} → None ≡ Some x → ⊥
    none h = cc
some_at k (x ∷ slots) s e = omega arith

some_behind : (xs : List Slot) (x : Slot) → 1 ≤ length (xs ++ x ∷ [])
some_behind [] x = omega arith
some_behind (y ∷ xs) x = omega arith

placed_some : (limits : Limits) (file : ℕ) (event : Event) (used : ℕ) (moment : ℤ) (slots : List Slot) →
    GoesInto limits file event used moment slots ⊎ GoesBehind limits file event used moment slots →
    1 ≤ length (placed limits file event used moment slots)
placed_some limits file event used moment slots (inl g) =
    let a = some_at g.place slots g.slot g.found in
    let b = length_update g.place (filled_slot limits event used moment) slots in
    let c = ap (λ (l : List Slot). length l) g.comes_to in
    omega (arith, a, b, c)
placed_some limits file event used moment slots (inr g) =
    subst (λ (l : List Slot). 1 ≤ length l) (sym g.comes_to) (some_behind (roll g.rolls slots) _)

is_placed : (force : List Kept) (moment : ℤ) (file used : ℕ) (event : Event) (i : Index) → IsSound i →
    IsFilled (filled force moment file used event i)
is_placed force moment file used event i h = (
  sound_placed i.name (limits force i.name) file event used moment i.slots h,
  placed_some (limits force i.name) file event used moment i.slots (goes i.name (limits force i.name) file event used moment i.slots h),
)

put : (name : List ℕ) (f : Index → Index) (is : List Index) (b : Bool) → ((i : Index) → IsSound i → IsFilled (f i)) →
    AllByRecursion IsFilled is →
    AllByRecursion IsFilled (if b then change index_name name f is else insert index_name (f (fresh_index name)) is)
put name f is true k h = all_change IsFilled index_name name f is h (λ i p. k i p.0)
put name f is false k h = all_put IsFilled (stands_before index_name) (f (fresh_index name)) is (k (fresh_index name) tt) h

deal_filled : (force : List Kept) (moment : ℤ) (s : Catalog) (event : Event) (o : Option (List ℕ)) → AllByRecursion IsFilled s.indexes →
    AllByRecursion IsFilled (deal_to force moment s event o).indexes
deal_filled force moment s event None h = h
deal_filled force moment s event (Some name) h =
    put name (filled force moment s.next_file (s.counts.placed + 1) (named name event)) s.indexes (is_some (find index_name name s.indexes))
    (λ i p. is_placed force moment s.next_file (s.counts.placed + 1) (named name event) i p) h

length_turned : (t : Turn) (file : ℕ) (slots : List Slot) → length (kept.all_turned t file slots) ≡ length slots
length_turned t file [] = refl
length_turned t file (s ∷ slots) = ap suc (length_turned t (file_behind t file s.standing) slots)

turns_filled : (force : List Kept) (moment : ℤ) (file : ℕ) (is : List Index) → AllByRecursion IsFilled is →
    AllByRecursion IsFilled (all_turned force moment file is)
turns_filled force moment file [] h = tt
turns_filled force moment file (i ∷ is) h = (
  (
    sound_turned (turn_in force moment i) 0 file i.slots h.0.0,
    (let a = length_turned (turn_in force moment i) file i.slots in let b = h.0.1 in omega (arith, a, b)),
  ),
  turns_filled force moment (file + files_taken force moment i) is h.1,
)

abbrev pub AreFilled : Catalog → Type 0
AreFilled s = AllByRecursion IsFilled s.indexes

routed_filled : (force : List Kept) (moment : ℤ) (s : Catalog) (o : Routed) → AreFilled s → AreFilled (deal force moment s o)
routed_filled force moment s (To event) h = deal_filled force moment s event (home force event.index) h
routed_filled force moment s Null h = h

keeps_filled : Keeps AreFilled
keeps_filled = record {
  deals = routed_filled;
  ticks = λ force moment s h. turns_filled force moment s.next_file s.indexes h;
  rolls = λ index s h. all_change IsFilled index_name index closed_index s.indexes h
      (λ i p. (sound_closed i.name 0 i.slots p.0, (let a = length-map i.slots closed_slot in let b = p.1 in omega (arith, a, b))));
  thaws = λ index id s h. all_change IsFilled index_name index (thawed_index id s.next_file) s.indexes h
      (λ i p. (
        sound_thawed i.name id s.next_file i.slots p.0,
        (let a = length_update id (thawed_slot s.next_file) i.slots in let b = p.1 in omega (arith, a, b)),
      ));
}

pub filled_after : (choose : Chooser) (history : List TimedCommand) → AreFilled (state_after choose history).catalog
filled_after choose history = keeps_after AreFilled keeps_filled choose empty history tt
