-- What indexes.conf says: its first fault, and the limits of each index. From Splunk's Admin
-- Manual, indexes.conf.
use Rattle.std.specs.Prelude.{◌≡◌, ℕ, Bool, true, false, not, ◌&&◌, ◌||◌, if◌then◌else◌, List, [], ◌∷◌, ◌++◌, Option, Some, None, is_some}
use Rattle.std.specs.Prelude.{unwrap_or, codes, bytes_eq}
use Rattle.std.specs.Option.{option_and_then, option_or}
use Rattle.std.specs.List.{flat_map}
use Rattle.ix_conf.specs.Value.{entry_at}
use Rattle.ix_conf.specs.declared.layers.MergedEntry.{MergedEntry}
use Rattle.ix_conf_values.specs.Values.{value_of}
use Rattle.ix_life.specs.declared.kinds.Kind.{Kind}
use Rattle.ix_life.specs.declared.kinds.Kind.TheVariants as kinds
use Rattle.ix_life.specs.declared.limits.Limits.{Limits}
use Rattle.ix_life.specs.declared.sets.IndexLimits.{IndexLimits}
use Rattle.ix_life.specs.declared.sets.LimitSet.{LimitSet}
use Rattle.ix_life.specs.declared.sets.Route.{Route}
use Rattle.ix_life.specs.declared.sets.Route.TheVariants as routes
use Rattle.ix_life.specs.declared.faults.LimitFault.{LimitFault}
use Rattle.ix_life.specs.declared.faults.LimitFault.TheVariants.{BadValue, BadIndexName, NoMemory}
use Rattle.ix_life.specs.Kinds.{read, kind_of}
use Rattle.ix_life.specs.Stanzas.{is_default, is_volume, is_index_stanza, is_index, is_index_name}

-- ---- faults

-- a key that is no number of an index takes any value
abbrev pub is_good_number : Option Kind → List ℕ → Bool
is_good_number None text = true
is_good_number (Some kind) text = is_some (read kind text)

-- settings that have a meaning in `default` alone
abbrev pub names_an_index : List ℕ → Bool
names_an_index key = bytes_eq key (codes "defaultDatabase") || bytes_eq key (codes "lastChanceIndex")

abbrev pub is_good_default : List MergedEntry → List ℕ → List ℕ → Bool
is_good_default entries key text =
    if names_an_index key then is_index entries text
    else if bytes_eq key (codes "rotatePeriodInSecs") then is_some (read kinds.FromOne text)
    else true

-- an empty value says no more than that there is none
abbrev pub is_good : List MergedEntry → List ℕ → List ℕ → List ℕ → Bool
is_good entries stanza key [] = true
is_good entries stanza key (b ∷ bs) =
    is_good_number (kind_of key) (b ∷ bs) && (not (is_default stanza) || is_good_default entries key (b ∷ bs))

abbrev pub stanza_fault : List ℕ → Option LimitFault
stanza_fault stanza = if is_index_stanza stanza && not (is_index_name stanza) then Some (BadIndexName stanza) else None

abbrev pub value_fault : List MergedEntry → MergedEntry → Option LimitFault
value_fault entries e =
    if is_volume e.stanza || is_good entries e.stanza e.key e.value then None else Some (BadValue e.stanza e.key)

-- the fault of one entry: of a stanza itself, or of a value
abbrev pub fault_with : List MergedEntry → MergedEntry → List ℕ → Option LimitFault
fault_with entries e [] = stanza_fault e.stanza
fault_with entries e (b ∷ key) = value_fault entries e

abbrev pub fault_at : List MergedEntry → MergedEntry → Option LimitFault
fault_at entries e = fault_with entries e e.key

-- the first fault of some of the entries, which stand in the order of stanza and key
abbrev pub first_of : List MergedEntry → List MergedEntry → Option LimitFault
first_of entries [] = None
first_of entries (e ∷ es) = option_or (fault_at entries e) (first_of entries es)

abbrev pub first_fault : List MergedEntry → Option LimitFault
first_fault entries = first_of entries entries

-- a fault is answered where it is the first one; want of memory may be answered at any time
abbrev pub Refuses : Option LimitFault → LimitFault → Type 0
Refuses found (BadValue stanza key) = found ≡ Some (BadValue stanza key)
Refuses found (BadIndexName stanza) = found ≡ Some (BadIndexName stanza)
Refuses found NoMemory = Unit {0}

-- ---- limits

-- the number of a key in this stanza, else in `default`, else the built-in one
abbrev pub number : List MergedEntry → List ℕ → List ℕ → Kind → ℕ → ℕ
number entries stanza key kind builtin = unwrap_or (option_and_then (read kind) (value_of entries stanza key)) builtin

abbrev pub limits : List MergedEntry → List ℕ → Limits
limits entries index = record {
  max_data_mb = number entries index (codes "maxDataSize") kinds.Size 750;
  max_hot_buckets = number entries index (codes "maxHotBuckets") kinds.HotBuckets 3;
  max_hot_span_secs = number entries index (codes "maxHotSpanSecs") kinds.Span 7776000;
  max_hot_idle_secs = number entries index (codes "maxHotIdleSecs") kinds.FromZero 0;
  max_warm_count = number entries index (codes "maxWarmDBCount") kinds.FromZero 300;
  frozen_secs = number entries index (codes "frozenTimePeriodInSecs") kinds.FromOne 188697600;
  max_total_mb = number entries index (codes "maxTotalDataSizeMB") kinds.FromOne 500000;
  home_max_mb = number entries index (codes "homePath.maxDataSizeMB") kinds.FromZero 0;
  cold_max_mb = number entries index (codes "coldPath.maxDataSizeMB") kinds.FromZero 0;
  quarantine_past_secs = number entries index (codes "quarantinePastSecs") kinds.FromZero 77760000;
  quarantine_future_secs = number entries index (codes "quarantineFutureSecs") kinds.FromZero 2592000;
  archive = is_some (value_of entries index (codes "coldToFrozenDir"));
}

abbrev pub index_limits : List MergedEntry → List ℕ → Option Limits
index_limits entries index = if is_index entries index then Some (limits entries index) else None

-- ---- sets

-- the limits of an index among those of a list
abbrev pub limits_in : List ℕ → List IndexLimits → Option Limits
limits_in index [] = None
limits_in index (x ∷ xs) = if bytes_eq index x.name then Some x.limits else limits_in index xs

-- the limits that a set has for an index
abbrev pub limits_of : LimitSet → List ℕ → Option Limits
limits_of set index = limits_in index set.indexes

-- ---- how a set lists its indexes

abbrev pub named : List MergedEntry → List ℕ → IndexLimits
named entries index = record { name = index; limits = limits entries index }

-- the index of a stanza's own entry
abbrev pub listed_with : List MergedEntry → MergedEntry → List ℕ → List IndexLimits
listed_with entries e [] = if is_index_stanza e.stanza then named entries e.stanza ∷ [] else []
listed_with entries e (b ∷ key) = []

abbrev pub listed_at : List MergedEntry → MergedEntry → List IndexLimits
listed_at entries e = listed_with entries e e.key

-- `main`, where it has no stanza
abbrev pub main_of : List MergedEntry → List IndexLimits
main_of entries = if is_some (entry_at (codes "main") [] entries) then [] else named entries (codes "main") ∷ []

abbrev pub listed : List MergedEntry → List IndexLimits
listed entries = flat_map (listed_at entries) entries ++ main_of entries

-- a set says what the entries say
pub record AreLimits (entries : List MergedEntry) (set : LimitSet) : Type 0 where
  pub default_database : set.default_database ≡ unwrap_or (value_of entries (codes "default") (codes "defaultDatabase")) (codes "main")
  pub last_chance : set.last_chance ≡ value_of entries (codes "default") (codes "lastChanceIndex")
  pub rotate_secs : set.rotate_secs ≡ number entries (codes "default") (codes "rotatePeriodInSecs") kinds.FromOne 60
  pub retired : set.retired ≡ limits entries (codes "default")
  pub listed : set.indexes ≡ listed entries
  pub limits : (index : List ℕ) → limits_of set index ≡ index_limits entries index

abbrev pub route : LimitSet → List ℕ → Route
route set index =
    if is_some (limits_of set index) then routes.Given
    else if is_some set.last_chance then routes.LastChance
    else routes.Nowhere
