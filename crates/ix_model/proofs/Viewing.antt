-- What is seen of a state balances, and Ticks freeze as many buckets as is said.
use Rattle.std.proofs.Common.{◌≡◌, ◌≢◌, ℕ, suc, ◌+◌, ℤ, Bool, List, [], ◌∷◌, length, map, refl, ap, ◌∙◌, arith, length-append}
use Rattle.std.specs.Prelude.{Option, Some, None, if◌then◌else◌, option_to_list, fold, unwrap_or}
use Rattle.std.specs.List.{AllByRecursion, sum_by, flat_map}
use Rattle.std.proofs.lemmas.List.Sorted.{sum_by-IsPermutation}
use Rattle.std.proofs.lemmas.List.Sums.{sum_by-cons, sum_by-append}
use Rattle.ix_items.specs.declared.items.Bucket.{Bucket}
use Rattle.ix_items.specs.declared.items.Entry.{Entry}
use Rattle.ix_items.specs.declared.items.Kept.{Kept}
use Rattle.ix_items.specs.declared.items.Rule.{Rule}
use Rattle.ix_items.specs.declared.items.State.{State as BucketState}
use Rattle.ix_items.specs.declared.items.State.TheVariants as states
use Rattle.ix_model.specs.Balance.{stored, stored_by, stored_in, IsBalancedView}
use Rattle.ix_model.specs.Balance as balance
use Rattle.ix_model.specs.Buckets.{Standing, live, frozen, Slot, Index, live_bucket, listed, entered, live_buckets, buckets, ledger}
use Rattle.ix_model.specs.Given.{Chooser}
use Rattle.ix_model.specs.Judged.{moved}
use Rattle.ix_model.specs.Keeping.{turned, turned_by, freezes, file_behind, many_freeze}
use Rattle.ix_catalog.specs.Buckets.{Turn, rule_of}
use Rattle.ix_model.specs.Keeping as kept
use Rattle.ix_model.specs.Ledger.{all_frozen}
use Rattle.ix_catalog.specs.Lists.{find}
use Rattle.ix_model.specs.Ranked.{ranked}
use Rattle.ix_model.specs.Shown.{configured, with_fresh, all_indexes, index_view, whole_ledger, view}
use Rattle.ix_model.specs.State.{State, index_name, fresh_index}
use Rattle.ix_model.specs.Step.{turn_in, turned_index, files_taken, all_turned, tick, stepped, state_after}
use Rattle.ix_model.specs.Sums.{IsStandingOf, AreSoundFrom, IsSound}
use Rattle.ix_model.specs.declared.commands.Command.TheVariants.{Tick}
use Rattle.ix_model.specs.declared.commands.TimedCommand.{TimedCommand}
use Rattle.ix_model.proofs.Balanced.{balanced_after}
use Rattle.ix_model.proofs.Ledgers.{keeps_all, all_after, same_entries, same_length}
use Rattle.ix_model.proofs.Named.{sum_change_or_insert, all_change_or_insert}
use Rattle.ix_model.proofs.Ranking.{ranked_moved}
use Rattle.ix_model.proofs.Stepping.{sound_after}

-- ---- what the listed buckets say is stored

abbrev said : Bucket → ℕ
said b = stored_by b.state b.count

not_thawed : (state : BucketState) (count : ℕ) → state ≢ states.Thawed → stored_by state count ≡ count
not_thawed states.Hot count d = refl
not_thawed states.Quarantine count d = refl
not_thawed states.Warm count d = refl
not_thawed states.Cold count d = refl
not_thawed states.Thawed count d = absurd (d refl)

one_said : (index : List ℕ) (id : ℕ) (s : Slot) (standing : Standing) → IsStandingOf index id s.events standing →
    sum_by said (option_to_list (listed standing)) ≡ sum_by (λ (b : Bucket). b.count) (option_to_list (live_bucket standing))
one_said index id s (live b) h = let a = not_thawed b.state b.count h.state_is in omega (arith, a)
one_said index id s (frozen e None) h = refl
one_said index id s (frozen e (Some b)) h =
    let a : stored_by b.state b.count ≡ 0 = ap (λ (x : BucketState). stored_by x b.count) h.1.state_is in omega (arith, a)

all_said : (index : List ℕ) (id : ℕ) (slots : List Slot) → AreSoundFrom index id slots →
    sum_by said (buckets slots) ≡ sum_by (λ (b : Bucket). b.count) (live_buckets slots)
all_said index id [] h = refl
all_said index id (s ∷ slots) h =
    let a = one_said index id s s.standing h.0 in
    let b = all_said index (suc id) slots h.1 in
    let c = sum_by-append said (option_to_list (listed s.standing)) (buckets slots) in
    let d = sum_by-append (λ (x : Bucket). x.count) (option_to_list (live_bucket s.standing)) (live_buckets slots) in
    omega (arith, a, b, c, d)

views_said : (force : List Kept) (is : List Index) → AllByRecursion IsSound is →
    sum_by stored_in (map (index_view force) is) ≡ sum_by stored is
views_said force [] h = refl
views_said force (i ∷ is) h =
    let a = all_said i.name 0 i.slots h.0 in
    let b = views_said force is h.1 in
    let c = sum_by-cons stored_in (index_view force i) (map (index_view force) is) in
    let d = sum_by-cons stored i is in
    omega (arith, a, b, c, d)

-- ---- indexes that never had a bucket add nothing

fresh_sum : (names : List (List ℕ)) (is : List Index) → sum_by stored (fold with_fresh is names) ≡ sum_by stored is
fresh_sum [] is = refl
fresh_sum (name ∷ names) is =
    fresh_sum names (with_fresh is name)
    ∙ (let a = sum_change_or_insert index_name name (λ (i : Index). i) (fresh_index name) stored 0 is refl
    (let n : stored (unwrap_or (find index_name name is) (fresh_index name)) ≡ stored
    (unwrap_or (find index_name name is) (fresh_index name)) + 0 = omega arith in n) in
    omega (arith, a))

fresh_sound : (names : List (List ℕ)) (is : List Index) → AllByRecursion IsSound is → AllByRecursion IsSound (fold with_fresh is names)
fresh_sound [] is h = h
fresh_sound (name ∷ names) is h =
    fresh_sound names (with_fresh is name) (all_change_or_insert IsSound index_name name (λ (i : Index). i) (fresh_index name) is h
    (λ i p. p) tt)

ledger_sum : (is : List Index) → sum_by (λ (e : Entry). e.count) (flat_map (λ (i : Index). ledger i.slots) is) ≡ sum_by balance.frozen is
ledger_sum [] = refl
ledger_sum (i ∷ is) =
    let a = sum_by-append (λ (e : Entry). e.count) (ledger i.slots) (flat_map (λ (x : Index). ledger x.slots) is) in
    let b = ledger_sum is in
    let c = sum_by-cons balance.frozen i is in
    omega (arith, a, b, c)

pub view_balanced : (choose : Chooser) (history : List TimedCommand) → IsBalancedView (view (state_after choose history))
view_balanced choose history =
    let m = state_after choose history in
    let sound = fresh_sound (configured m.force) m.catalog.indexes (sound_after choose history) in
    let a = views_said m.force (all_indexes m) sound in
    let b = fresh_sum (configured m.force) m.catalog.indexes in
    let c =
    sum_by-IsPermutation (λ (e : Entry). e.count) m.catalog.ledger (ranked m.catalog.ledger) (ranked_moved m.catalog.ledger)
    ∙ same_entries m.catalog (all_after choose history) (λ (e : Entry). e.count)
    ∙ ledger_sum m.catalog.indexes in
    let d = (balanced_after choose history).settled in
    omega (arith, a, b, c, d)

-- ---- a Tick freezes as many as is said

abbrev one_if : Bool → ℕ
one_if b = if b then 1 else 0

frozen_by : (t : Turn) (file : ℕ) (b : Bucket) (o : Option Rule) → rule_of t.moves.frozen b.id ≡ o →
    length (option_to_list (entered (turned_by t file b o))) ≡ one_if (freezes t (live b))
frozen_by t file b None e = rw e refl
frozen_by t file b (Some rule) e = rw e refl

one_frozen : (t : Turn) (file : ℕ) (standing : Standing) →
    length (option_to_list (entered (turned t file standing))) ≡ length (option_to_list (entered standing)) + one_if (freezes t standing)
one_frozen t file (live b) = let a = frozen_by t file b (rule_of t.moves.frozen b.id) refl in omega (arith, a)
one_frozen t file (frozen e other) = refl

slots_frozen : (t : Turn) (file : ℕ) (slots : List Slot) →
    length (ledger (kept.all_turned t file slots)) ≡ length (ledger slots) + many_freeze t slots
slots_frozen t file [] = refl
slots_frozen t file (s ∷ slots) =
    let next = file_behind t file s.standing in
    let a = one_frozen t file s.standing in
    let b = slots_frozen t next slots in
    let c = length-append (option_to_list (entered (turned t file s.standing))) (ledger (kept.all_turned t next slots)) in
    let d = length-append (option_to_list (entered s.standing)) (ledger slots) in
    let e = sum_by-cons (λ (x : Slot). one_if (freezes t x.standing)) s slots in
    omega (arith, a, b, c, d, e)

indexes_frozen : (force : List Kept) (moment : ℤ) (file : ℕ) (is : List Index) →
    length (flat_map (λ (i : Index). ledger i.slots) (all_turned force moment file is))
    ≡ length (flat_map (λ (i : Index). ledger i.slots) is) + sum_by (λ (i : Index). many_freeze (turn_in force moment i) i.slots) is
indexes_frozen force moment file [] = refl
indexes_frozen force moment file (i ∷ is) =
    let next = file + files_taken force moment i in
    let a = slots_frozen (turn_in force moment i) file i.slots in
    let b = indexes_frozen force moment next is in
    let c = length-append (ledger (turned_index force moment file i).slots)
    (flat_map (λ (x : Index). ledger x.slots) (all_turned force moment next is)) in
    let d = length-append (ledger i.slots) (flat_map (λ (x : Index). ledger x.slots) is) in
    let e = sum_by-cons (λ (x : Index). many_freeze (turn_in force moment x) x.slots) i is in
    omega (arith, a, b, c, d, e)

pub ticks_counted : (choose : Chooser) (history : List TimedCommand) (moment : ℤ) →
    let m : State = state_after choose history in
    length (whole_ledger (stepped choose m Tick moment)) ≡ length (whole_ledger m) + moved m Tick moment
ticks_counted choose history moment =
    let m : State = state_after choose history in
    let h = all_after choose history in
    let behind = tick m.force moment m.catalog in
    let a = same_length behind.ledger (all_frozen behind.indexes) (same_entries behind (keeps_all.ticks m.force moment m.catalog h)) in
    let b = same_length m.catalog.ledger (all_frozen m.catalog.indexes) (same_entries m.catalog h) in
    let c = indexes_frozen m.force moment m.catalog.next_file m.catalog.indexes in
    omega (arith, a, b, c)
