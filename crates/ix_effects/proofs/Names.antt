-- The names of indexes in a state within its bounds can be written.
use Rattle.std.proofs.Common.{◌<◌, ℕ, ◌+◌, ◌==◌, ◌^◌, List, [], ◌∷◌, ◌++◌, map, length, arith, length-append}
use Rattle.std.specs.Prelude.{codes, filter, is_some}
use Rattle.std.specs.List.{AllByRecursion, flat_map}
use Rattle.ix_conf.specs.Value.{entry_at}
use Rattle.ix_conf.specs.declared.layers.MergedEntry.{MergedEntry}
use Rattle.ix_coding.specs.Spelling.{string, byte, four, eight}
use Rattle.ix_items.specs.Spelling.{item_bytes, field_bytes, settings_bytes, kept_bytes}
use Rattle.ix_items.specs.declared.items.Item.{Item}
use Rattle.ix_items.specs.declared.items.Item.TheVariants as items
use Rattle.ix_items.specs.declared.items.Kept.{Kept}
use Rattle.ix_life.specs.Listed.{listed_with, listed_at, main_of, listed}
use Rattle.ix_life.specs.Stanzas.{is_index_stanza}
use Rattle.ix_life.specs.declared.sets.IndexLimits.{IndexLimits}
use Rattle.ix_model.specs.Bounds.{KeepsBounds, bucket_items, entry_items, next_item, channel_item, sized_items}
use Rattle.ix_model.specs.Buckets.{Index}
use Rattle.ix_model.specs.Given.{entry, entries}
use Rattle.ix_model.specs.Shown.{configured}
use Rattle.ix_model.specs.State.{State}
use Rattle.ix_model.proofs.Named.{by_test}
use Rattle.ix_effects.specs.Guarding.{HasShortName}
use Rattle.ix_effects.proofs.Lists.{all_from, all_front, all_rest, all_append, all_map, all_mapped, all_flat, all_filter, each_short}
use Rattle.ix_effects.proofs.Numbers.{all_seen}
use Rattle.ix_model.specs.Shelved.{shelved_indexes}

-- ---- by the bytes of items

pub string_short : (name : List ℕ) (n : ℕ) → length (string name) < n → length name < n
unfolding string
string_short name n h = let s = length-append (four (length name)) name in omega (arith, s, h)

next_short : (i : Index) (n : ℕ) → length (item_bytes (next_item i)) < n → length i.name < n
unfolding item_bytes field_bytes
next_short i n h =
    let a = length-append (byte 13) (string i.name ++ eight (length i.slots)) in
    let b = length-append (string i.name) (eight (length i.slots)) in
    string_short i.name n (omega (arith, a, b, h))

stanza_short : (k : Kept) (n : ℕ) → length (kept_bytes k) < n → length k.stanza < n
stanza_short k n h =
    let a = length-append (byte k.file ++ string k.stanza ++ string k.key) (string k.value) in
    let b = length-append (byte k.file ++ string k.stanza) (string k.key) in
    let c = length-append (byte k.file) (string k.stanza) in
    string_short k.stanza n (omega (arith, a, b, c, h))

settings_short : (force : List Kept) (n : ℕ) → length (item_bytes (items.Settings force)) < n →
    AllByRecursion (λ (k : Kept). length k.stanza < n) force
unfolding item_bytes field_bytes settings_bytes
settings_short force n h =
    let a = length-append (byte 1) (four (length force) ++ flat_map kept_bytes force) in
    let b = length-append (four (length force)) (flat_map kept_bytes force) in
    all_from (λ (k : Kept). length (kept_bytes k) < n) (λ (k : Kept). length k.stanza < n) (λ k l. stanza_short k n l) force
    (each_short kept_bytes n force (omega (arith, a, b, h)))

abbrev pub Small : Item → Type 0
Small x = length (item_bytes x) < 2 ^ 29

pub sized : (m : State) → KeepsBounds m → AllByRecursion Small (sized_items m)
sized m h = each_short item_bytes (2 ^ 29) (sized_items m) h.items

stanzas : (m : State) → KeepsBounds m → AllByRecursion (λ (k : Kept). length k.stanza < 2 ^ 29) m.force
stanzas m h = settings_short m.force (2 ^ 29) (sized m h).0

indexes_short : (m : State) → KeepsBounds m → AllByRecursion (λ (i : Index). length i.name < 2 ^ 29) m.catalog.indexes
indexes_short m h =
    let buckets_and = items.Settings m.force ∷ flat_map bucket_items m.catalog.indexes ++ flat_map entry_items m.catalog.indexes
    ++ map items.Spot m.spots in
    let all : AllByRecursion Small ((buckets_and ++ map next_item m.catalog.indexes) ++ map channel_item m.channels) = sized m h in
    all_from (λ (i : Index). Small (next_item i)) (λ (i : Index). length i.name < 2 ^ 29) (λ i l. next_short i (2 ^ 29) l) m.catalog.indexes
    (all_mapped Small next_item m.catalog.indexes
    (all_rest Small buckets_and (map next_item m.catalog.indexes)
    (all_front Small (buckets_and ++ map next_item m.catalog.indexes) (map channel_item m.channels) all)))

-- ---- configured indexes

abbrev ShortStanza : MergedEntry → Type 0
ShortStanza e = length e.stanza < 2 ^ 29

abbrev ShortLimits : IndexLimits → Type 0
ShortLimits x = length x.name < 2 ^ 29

with_short : (all : List MergedEntry) (e : MergedEntry) (key : List ℕ) → ShortStanza e → AllByRecursion ShortLimits (listed_with all e key)
with_short all e [] h = by_test (is_index_stanza e.stanza) (λ t. rw t (h, tt)) (λ t. rw t tt)
with_short all e (b ∷ key) h = tt

main_short : length (codes "main") < 2 ^ 29
main_short = omega arith

main_of_short : (all : List MergedEntry) → AllByRecursion ShortLimits (main_of all)
main_of_short all = by_test (is_some (entry_at (codes "main") [] all)) (λ t. rw t tt) (λ t. rw t (main_short, tt))

listed_short : (all : List MergedEntry) → AllByRecursion ShortStanza all → AllByRecursion ShortLimits (listed all)
listed_short all h =
    all_append ShortLimits (flat_map (listed_at all) all) (main_of all)
    (all_flat ShortLimits (listed_at all) all (all_from ShortStanza (λ (e : MergedEntry). AllByRecursion ShortLimits (listed_at all e))
    (λ e s. with_short all e e.key s) all h))
    (main_of_short all)

configured_short : (force : List Kept) → AllByRecursion (λ (k : Kept). length k.stanza < 2 ^ 29) force →
    AllByRecursion (λ (n : List ℕ). length n < 2 ^ 29) (configured force)
configured_short force h =
    all_map (λ (n : List ℕ). length n < 2 ^ 29) (λ (x : IndexLimits). x.name) (listed (entries force))
    (listed_short (entries force) (all_map ShortStanza entry (filter (λ (k : Kept). k.file == 3) force)
    (all_filter (λ (k : Kept). length k.stanza < 2 ^ 29) (λ (k : Kept). k.file == 3) force h)))

-- ---- what is seen

short : (n : ℕ) → n < 2 ^ 29 → n < 2 ^ 32
short n h = omega (arith, h)

pub names_short : (m : State) → KeepsBounds m → AllByRecursion HasShortName (shelved_indexes m.force m.catalog.indexes)
names_short m h =
    all_seen HasShortName m.force m.catalog.indexes
    (all_from (λ (n : List ℕ). length n < 2 ^ 29) (λ (n : List ℕ). length n < 2 ^ 32) (λ n l. short (length n) l) (configured m.force)
    (configured_short m.force (stanzas m h)))
    (all_from (λ (i : Index). length i.name < 2 ^ 29) (λ (i : Index). length i.name < 2 ^ 32) (λ i l. short (length i.name) l)
    m.catalog.indexes (indexes_short m h))
