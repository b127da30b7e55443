-- The entries of the ledger of a state within its bounds can be written.
use Rattle.std.proofs.Common.{◌≡◌, ◌≢◌, ◌<◌, ◌≤◌, ℕ, zero, suc, ◌+◌, ◌==◌, ◌^◌, true, List, [], ◌∷◌, ◌++◌, map, length, refl, arith}
use Rattle.std.proofs.Common.{length-append}
use Rattle.std.specs.Prelude.{Option, Some, None, if◌then◌else◌, option_to_list, nat_lt}
use Rattle.std.specs.List.{AllByRecursion, flat_map, sum_by}
use Rattle.std.proofs.lemmas.Bool.{ltb-true}
use Rattle.std.proofs.lemmas.Bool.Decides.{nat_tests}
use Rattle.std.proofs.lemmas.List.Sums.{sum_by-cons}
use Rattle.ix_coding.specs.Spelling.{byte}
use Rattle.ix_items.specs.Spelling.{item_bytes, field_bytes, entry_bytes}
use Rattle.ix_items.specs.declared.items.Entry.{Entry}
use Rattle.ix_items.specs.declared.items.Item.{Item}
use Rattle.ix_items.specs.declared.items.Item.TheVariants as items
use Rattle.ix_model.specs.Bounds.{KeepsBounds, bucket_items, entry_items, next_item, channel_item}
use Rattle.ix_model.specs.Buckets.{Standing, live, frozen, Slot, Index, entered, ledger}
use Rattle.ix_model.specs.Files.{once_if, archive_uses, standing_uses, slot_uses, index_uses}
use Rattle.ix_model.specs.Given.{Chooser}
use Rattle.ix_model.specs.Ledger.{all_frozen}
use Rattle.ix_model.specs.State.{State, Catalog}
use Rattle.ix_model.specs.Step.{state_after}
use Rattle.ix_model.specs.declared.commands.TimedCommand.{TimedCommand}
use Rattle.ix_model.proofs.Freezing.{gained}
use Rattle.ix_model.proofs.Ledgers.{gains, all_after, same_entries}
use Rattle.ix_model.proofs.Named.{by_test}
use Rattle.ix_model.proofs.Renewing.{apart_after}
use Rattle.ix_effects.specs.Guarding.{IsWritableEntry}
use Rattle.ix_effects.proofs.Lists.{all_from, all_two, all_front, all_rest, all_append, all_mapped, each_none, none_each, sum_most}
use Rattle.ix_effects.proofs.Names.{Small, sized, string_short}

one_none : suc zero ≡ zero → ⊥
one_none e = omega (arith, e)

-- ---- no archive has the number 0

abbrev zero_uses : Entry → ℕ
zero_uses e = archive_uses 0 e.archive

slot_most : (s : Slot) → gained zero_uses s ≤ slot_uses 0 s
slot_most s = by s.standing
  where
    by : (standing : Standing) → sum_by zero_uses (option_to_list (entered standing)) ≤ standing_uses 0 standing
    by (live b) = omega arith
    by (frozen e thawed) = let a = sum_by-cons zero_uses e [] in omega (arith, a)

index_most : (i : Index) → gains zero_uses i ≤ index_uses 0 i
index_most i = sum_most (gained zero_uses) (slot_uses 0) slot_most i.slots

zero_none : (choose : Chooser) (history : List TimedCommand) →
    AllByRecursion (λ (e : Entry). zero_uses e ≡ 0) (state_after choose history).catalog.ledger
zero_none choose history =
    let s : Catalog = (state_after choose history).catalog in
    let a = (all_after choose history).entries zero_uses in
    let b = sum_most (gains zero_uses) (index_uses 0) index_most s.indexes in
    let c = (apart_after choose history).from_one in
    each_none zero_uses s.ledger (omega (arith, a, b, c))

not_zero : (archive : Option ℕ) → archive_uses 0 archive ≡ 0 → archive ≢ Some 0
not_zero None h q = cc
not_zero (Some number) h q = other number (some_same q) h
  where
    some_same : Some number ≡ Some zero → number ≡ zero
    some_same e = cc

    other : (n : ℕ) → n ≡ zero → once_if 0 n ≡ zero → ⊥
    other n e k = by_test (n == 0) (λ t. one_none (rw t at k)) (λ t. grind (arith, nat_tests))

-- ---- no name is long

front_short : (a b : List ℕ) (n : ℕ) → length (a ++ b) < n → length a < n
front_short a b n h = let s = length-append a b in omega (arith, s, h)

entry_short : (e : Entry) (n : ℕ) → length (entry_bytes e) < n → length e.index < n
unfolding entry_bytes
entry_short e n h =
    string_short e.index n
    (front_short _ _ n (front_short _ _ n (front_short _ _ n
    (front_short _ _ n (front_short _ _ n (front_short _ _ n (front_short _ _ n (front_short _ _ n h))))))))

ledger_short : (e : Entry) (n : ℕ) → length (item_bytes (items.Ledger e)) < n → length e.index < n
unfolding item_bytes field_bytes
ledger_short e n h = let s = length-append (byte 8) (entry_bytes e) in entry_short e n (omega (arith, s, h))

abbrev ShortIndex : Entry → Type 0
ShortIndex e = length e.index < 2 ^ 29

frozen_short : (is : List Index) → AllByRecursion Small (flat_map entry_items is) → AllByRecursion ShortIndex (all_frozen is)
frozen_short [] h = tt
frozen_short (i ∷ is) h =
    all_append ShortIndex (ledger i.slots) (all_frozen is)
    (all_from (λ (e : Entry). Small (items.Ledger e)) ShortIndex (λ e l. ledger_short e (2 ^ 29) l) (ledger i.slots)
    (all_mapped Small items.Ledger (ledger i.slots) (all_front Small (entry_items i) (flat_map entry_items is) h)))
    (frozen_short is (all_rest Small (entry_items i) (flat_map entry_items is) h))

entries_sized : (m : State) → KeepsBounds m → AllByRecursion Small (flat_map entry_items m.catalog.indexes)
entries_sized m h =
    let first : List Item = items.Settings m.force ∷ flat_map bucket_items m.catalog.indexes in
    let entries : List Item = flat_map entry_items m.catalog.indexes in
    let spots : List Item = map items.Spot m.spots in
    let next : List Item = map next_item m.catalog.indexes in
    let channels : List Item = map channel_item m.channels in
    all_rest Small first entries
    (all_front Small (first ++ entries) spots (all_front Small (first ++ entries
    ++ spots) next (all_front Small (first ++ entries ++ spots ++ next) channels (sized m h))))

abbrev long : Entry → ℕ
long e = if nat_lt (length e.index) (2 ^ 32) then 0 else 1

none_long : (e : Entry) → ShortIndex e → long e ≡ 0
none_long e h = let t : nat_lt (length e.index) (2 ^ 32) ≡ true = grind (arith, nat_tests) in rw t refl

not_long : (e : Entry) → long e ≡ 0 → length e.index < 2 ^ 32
not_long e h = by_test (nat_lt (length e.index) (2 ^ 32)) (λ t. ltb-true _ _ t) (λ t. absurd (one_none (rw t at h)))

long_none : (choose : Chooser) (history : List TimedCommand) → KeepsBounds (state_after choose history) →
    AllByRecursion (λ (e : Entry). long e ≡ 0) (state_after choose history).catalog.ledger
long_none choose history h =
    let m : State = state_after choose history in
    let a = same_entries m.catalog (all_after choose history) long in
    let b = none_each long (all_frozen m.catalog.indexes)
    (all_from ShortIndex (λ (e : Entry). long e ≡ 0) none_long (all_frozen m.catalog.indexes)
    (frozen_short m.catalog.indexes (entries_sized m h))) in
    each_none long m.catalog.ledger (omega (arith, a, b))

-- ---- all of them

pub entries_writable : (choose : Chooser) (history : List TimedCommand) → KeepsBounds (state_after choose history) →
    AllByRecursion IsWritableEntry (state_after choose history).catalog.ledger
entries_writable choose history h =
    all_two (λ (e : Entry). long e ≡ 0) (λ (e : Entry). zero_uses e ≡ 0) IsWritableEntry (λ e a b. (not_long e a, not_zero e.archive b))
    (state_after choose history).catalog.ledger
    (long_none choose history h) (zero_none choose history)
