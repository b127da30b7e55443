-- Buckets with their events.
use Rattle.std.specs.Prelude.{ℕ, List, Option, Some, None, option_to_list}
use Rattle.std.specs.List.{flat_map}
use Rattle.ix_base.specs.declared.events.Event.{Event}
use Rattle.ix_items.specs.declared.items.Bucket.{Bucket}
use Rattle.ix_items.specs.declared.items.Entry.{Entry}

-- where a bucket stands: it is live, as a hot, quarantine, warm or cold one; or it is frozen and
-- has an entry in the ledger, and then it may be thawed besides
pub data Standing : Type 0 where
  live : Bucket → Standing
  frozen : Entry → Option Bucket → Standing

-- a bucket with its events, the first one first
pub record Slot : Type 0 where
  pub events : List Event
  pub standing : Standing

-- an index: all buckets that it ever had, the one with the number k at place k
pub record Index : Type 0 where
  pub name : List ℕ
  pub slots : List Slot

-- ---- what is seen of an index

abbrev pub live_bucket : Standing → Option Bucket
live_bucket (live b) = Some b
live_bucket (frozen e other) = None

abbrev pub listed : Standing → Option Bucket
listed (live b) = Some b
listed (frozen e other) = other

abbrev pub entered : Standing → Option Entry
entered (live b) = None
entered (frozen e other) = Some e

-- its hot, quarantine, warm and cold buckets
abbrev pub live_buckets : List Slot → List Bucket
live_buckets slots = flat_map (λ (s : Slot). option_to_list (live_bucket s.standing)) slots

-- these and the thawed ones, by their numbers
abbrev pub buckets : List Slot → List Bucket
buckets slots = flat_map (λ (s : Slot). option_to_list (listed s.standing)) slots

-- the entries of the frozen ones, by their numbers
abbrev pub ledger : List Slot → List Entry
ledger slots = flat_map (λ (s : Slot). option_to_list (entered s.standing)) slots
