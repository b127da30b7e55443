-- A Roll leaves no bucket of its index that takes events.
use Rattle.std.proofs.Common.{◌≡◌, ℕ, suc, ℤ, Bool, List, [], ◌∷◌, map, refl, ap, ◌∙◌, arith}
use Rattle.std.specs.Prelude.{Option, Some, None, if◌then◌else◌, option_to_list, unwrap_or}
use Rattle.std.specs.List.{AllByRecursion, count_by, sum_by}
use Rattle.std.specs.Option.{option_map}
use Rattle.std.proofs.lemmas.List.Sums.{sum_by-append}
use Rattle.ix_items.specs.declared.items.Bucket.{Bucket}
use Rattle.ix_items.specs.declared.items.State.{State as BucketState}
use Rattle.ix_life.specs.Placing.{is_open, takes_events}
use Rattle.ix_model.specs.Buckets.{Standing, live, frozen, Slot, Index, listed, buckets}
use Rattle.ix_model.specs.Given.{Chooser}
use Rattle.ix_model.specs.Keeping as kept
use Rattle.ix_model.specs.Keeping.{closed_slot}
use Rattle.ix_catalog.specs.Lists.{find}
use Rattle.ix_model.specs.Placed.{change_live}
use Rattle.ix_model.specs.State.{index_name, fresh_index, slots_in}
use Rattle.ix_model.specs.Step.{closed_index, stepped, state_after}
use Rattle.ix_model.specs.Sums.{IsStandingOf, AreSoundFrom, IsSound}
use Rattle.ix_model.specs.declared.commands.Command.TheVariants.{Roll}
use Rattle.ix_model.specs.declared.commands.TimedCommand.{TimedCommand}
use Rattle.ix_model.proofs.Named.{by_test, bytes_same, find_change, all_found}
use Rattle.ix_model.proofs.Stepping.{sound_after}

abbrev one_if : Bool → ℕ
one_if b = if b then 1 else 0

abbrev many_open : List Bucket → ℕ
many_open bs = sum_by (λ (b : Bucket). one_if (is_open b)) bs

closed_takes_none : (b : Bucket) → one_if (is_open (kept.closed b)) ≡ 0
closed_takes_none b = by_test (is_open b) (λ t. rw t refl) (λ t. rw t (rw t refl))

one_closed : (index : List ℕ) (id : ℕ) (s : Slot) (standing : Standing) → IsStandingOf index id s.events standing →
    many_open (option_to_list (listed (change_live kept.closed standing))) ≡ 0
one_closed index id s (live b) h = let a = closed_takes_none b in omega (arith, a)
one_closed index id s (frozen e None) h = refl
one_closed index id s (frozen e (Some b)) h =
    let a : one_if (takes_events b.state) ≡ 0 = ap (λ (x : BucketState). one_if (takes_events x)) h.1.state_is in omega (arith, a)

all_closed : (index : List ℕ) (id : ℕ) (slots : List Slot) → AreSoundFrom index id slots → many_open (buckets (map closed_slot slots)) ≡ 0
all_closed index id [] h = refl
all_closed index id (s ∷ slots) h =
    let a = one_closed index id s s.standing h.0 in
    let b = all_closed index (suc id) slots h.1 in
    let c = sum_by-append (λ (x : Bucket). one_if (is_open x)) (option_to_list (listed (change_live kept.closed s.standing)))
    (buckets (map closed_slot slots)) in
    omega (arith, a, b, c)

closed_of : (index : List ℕ) (is : List Index) → AllByRecursion IsSound is → (o : Option Index) → find index_name index is ≡ o →
    many_open (buckets (unwrap_or (option_map closed_index o) (fresh_index index)).slots) ≡ 0
closed_of index is h None e = refl
closed_of index is h (Some i) e = all_closed i.name 0 i.slots (all_found IsSound index_name index i is h e)

pub rolls_whole : (choose : Chooser) (history : List TimedCommand) (index : List ℕ) (moment : ℤ) →
    count_by is_open (buckets (slots_in (stepped choose (state_after choose history) (Roll index) moment).catalog.indexes index)) ≡ 0
rolls_whole choose history index moment =
    let is = (state_after choose history).catalog.indexes in
    ap (λ (o : Option Index). many_open (buckets (unwrap_or o (fresh_index index)).slots))
    (find_change index_name index index closed_index (λ i. refl) is
    ∙ ap (λ (b : Bool). if b then option_map closed_index (find index_name index is) else find index_name index is)
    (bytes_same index index refl))
    ∙ closed_of index is (sound_after choose history) (find index_name index is) refl
