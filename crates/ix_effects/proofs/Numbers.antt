-- A state within its bounds keeps what dealing asks of the numbers of its shelves.
use Rattle.std.proofs.Common.{◌<◌, ℕ, ◌^◌, List, [], ◌∷◌, arith}
use Rattle.std.specs.List.{AllByRecursion, fold}
use Rattle.ix_items.specs.declared.items.Bucket.{Bucket}
use Rattle.ix_items.specs.declared.items.Kept.{Kept}
use Rattle.ix_life.specs.declared.views.IndexView.{IndexView}
use Rattle.ix_model.specs.Balance.{IsBalanced}
use Rattle.ix_model.specs.Bounds.{KeepsBounds, bytes_in, events_in}
use Rattle.ix_model.specs.Buckets.{Index, buckets}
use Rattle.ix_model.specs.Given.{Chooser}
use Rattle.ix_model.specs.Shown.{configured, with_fresh, index_view}
use Rattle.ix_model.specs.State.{State, index_name, fresh_index}
use Rattle.ix_model.specs.Step.{state_after}
use Rattle.ix_model.specs.declared.commands.TimedCommand.{TimedCommand}
use Rattle.ix_model.proofs.Balanced.{balanced_after}
use Rattle.ix_model.proofs.Named.{all_change_or_insert}
use Rattle.ix_effects.proofs.Lists.{all_two, all_map, each_below}
use Rattle.ix_catalog.specs.Numbers.{KeepsBucket, KeepsIndex, KeepsNumbers}
use Rattle.ix_catalog.specs.Numbers as numbers
use Rattle.ix_model.specs.Shelved.{shelved, shelved_indexes}

-- what holds of each index, and of one without buckets that is configured, holds of each that is
-- seen
pub all_fresh : (P : Index → Type 0) (names : List (List ℕ)) (is : List Index) → AllByRecursion (λ (n : List ℕ). P (fresh_index n)) names →
    AllByRecursion P is → AllByRecursion P (fold with_fresh is names)
all_fresh P [] is f h = h
all_fresh P (n ∷ names) is f h =
    all_fresh P names (with_fresh is n) f.1 (all_change_or_insert P index_name n (λ (i : Index). i) (fresh_index n) is h (λ i p. p) f.0)

pub all_seen : (P : IndexView → Type 0) (force : List Kept) (is : List Index) →
    AllByRecursion (λ (n : List ℕ). P (index_view force (fresh_index n))) (configured force) →
    AllByRecursion (λ (i : Index). P (index_view force i)) is → AllByRecursion P (shelved_indexes force is)
all_seen P force is f h =
    all_map P (index_view force) (fold with_fresh is (configured force))
    (all_fresh (λ (i : Index). P (index_view force i)) (configured force) is f h)

every : {X : Type 0} (P : X → Type 0) → ((x : X) → P x) → (xs : List X) → AllByRecursion P xs
every P all [] = tt
every P all (x ∷ xs) = (all x, every P all xs)

keeps_buckets : (i : Index) → bytes_in i < 2 ^ 63 → events_in i < 2 ^ 63 → AllByRecursion KeepsBucket (buckets i.slots)
keeps_buckets i bytes events =
    all_two (λ (b : Bucket). b.bytes < 2 ^ 63) (λ (b : Bucket). b.count < 2 ^ 63) KeepsBucket (λ b h k. record { bytes = h; count = k })
    (buckets i.slots)
    (each_below (λ (b : Bucket). b.bytes) (2 ^ 63) (buckets i.slots) (omega (arith, bytes)))
    (each_below (λ (b : Bucket). b.count) (2 ^ 63) (buckets i.slots) (omega (arith, events)))

pub keeps_numbers : (force : List Kept) (m : State) → KeepsBounds m → KeepsNumbers (shelved force m.catalog)
keeps_numbers force m h = record {
  settled = h.settled;
  next_file = h.next_file;
  indexes = all_seen KeepsIndex force m.catalog.indexes
      (every (λ (n : List ℕ). KeepsIndex (index_view force (fresh_index n))) (λ n. tt) (configured force))
      (all_two (λ (i : Index). bytes_in i < 2 ^ 63) (λ (i : Index). events_in i < 2 ^ 63) (λ (i : Index). KeepsIndex (index_view force i))
      keeps_buckets m.catalog.indexes
      (each_below bytes_in (2 ^ 63) m.catalog.indexes h.bytes) (each_below events_in (2 ^ 63) m.catalog.indexes h.events));
}

pub is_balanced : (choose : Chooser) (history : List TimedCommand) (force : List Kept) →
    numbers.IsBalanced (shelved force (state_after choose history).catalog)
is_balanced choose history force =
    let b = balanced_after choose history in
    let s = b.settled in
    let p = b.placed in
    omega (arith, s, p)
