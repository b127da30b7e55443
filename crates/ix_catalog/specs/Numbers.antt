-- The numbers of a store stay below 2^63, and each record below 2^32 bytes.
use Rattle.std.specs.Prelude.{◌≡◌, ◌<◌, ◌+◌, ◌^◌, ℕ, List, length, Option, Some, None, IfSome}
use Rattle.std.specs.List.{AllByRecursion}
use Rattle.ix_base.specs.declared.events.Event.{Event}
use Rattle.ix_base.specs.declared.events.Routed.{Routed}
use Rattle.ix_base.specs.declared.events.Routed.TheVariants.{To, Null}
use Rattle.ix_items.specs.declared.items.Bucket.{Bucket}
use Rattle.ix_life.specs.declared.sets.LimitSet.{LimitSet}
use Rattle.ix_life.specs.declared.views.IndexView.{IndexView}
use Rattle.ix_catalog.specs.Buckets.{size, named}
use Rattle.ix_catalog.specs.Dealing.{home}
use Rattle.ix_catalog.specs.declared.index_table.IndexTable.{IndexTable}

-- ---- numbers

pub record KeepsBucket (b : Bucket) : Type 0 where
  pub bytes : b.bytes < 2 ^ 63
  pub count : b.count < 2 ^ 63

abbrev pub KeepsIndex : IndexView → Type 0
KeepsIndex v = AllByRecursion KeepsBucket v.buckets

-- the counts of events, the number of the next file, and the bytes and events of each bucket
pub record KeepsNumbers (s : IndexTable) : Type 0 where
  pub settled : s.settled < 2 ^ 63
  pub next_file : s.next_file < 2 ^ 63
  pub indexes : AllByRecursion KeepsIndex s.indexes

-- each settled event was placed, went to the null queue, or was dropped
abbrev pub IsBalanced : IndexTable → Type 0
IsBalanced s = s.settled ≡ s.placed + s.nulled + s.dropped

-- ---- records

abbrev pub HasRecordIn : Event → Option (List ℕ) → Type 0
HasRecordIn event None = Unit {0}
HasRecordIn event (Some name) = size (named name event) < 2 ^ 32

-- the record of an event, under the index that it goes to, has fewer than 2^32 bytes
abbrev pub HasRecord : LimitSet → Routed → Type 0
HasRecord set (To event) = HasRecordIn event (home set event.index)
HasRecord set Null = Unit {0}

-- the bytes of the fields of an event but its index
abbrev pub beside_index : Event → ℕ
beside_index event = length event.host + length event.source + length event.sourcetype + length event.meta + length event.raw

-- an event with small fields has a record wherever it goes
abbrev pub SmallHasRecord : Type 0
SmallHasRecord = (set : LimitSet) (event : Event) → beside_index event < 2 ^ 31 → length event.index < 2 ^ 30
    → IfSome set.last_chance (λ name. length name < 2 ^ 30) → HasRecord set (To event)
