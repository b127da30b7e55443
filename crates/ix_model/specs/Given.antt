-- What the settings in force give: where events go, how the buckets of an index are kept, and how a
-- channel is read.
use Rattle.std.specs.Prelude.{ℕ, ◌*◌, ◌==◌, Bool, if◌then◌else◌, List, [], Option, Some, filter, map, unwrap_or, codes}
use Rattle.ix_base.specs.declared.events.ChannelMeta.{ChannelMeta}
use Rattle.ix_conf.specs.declared.layers.MergedEntry.{MergedEntry}
use Rattle.ix_items.specs.declared.items.Kept.{Kept}
use Rattle.ix_life.specs.Limits as life
use Rattle.ix_life.specs.Stanzas.{is_index}
use Rattle.ix_life.specs.declared.kinds.Kind.TheVariants as kinds
use Rattle.ix_life.specs.declared.limits.Limits.{Limits}
use Rattle.ix_props.specs.declared.settings.Settings.{Settings}
use Rattle.ix_conf_values.specs.Values.{value_of}

-- the settings of a channel, chosen among those in force for where its bytes come from
abbrev pub Chooser : Type 0
Chooser = List Kept → ChannelMeta → Settings

-- ---- indexes.conf

abbrev pub entry : Kept → MergedEntry
entry kept = record { stanza = kept.stanza; key = kept.key; value = kept.value; layer = [] }

abbrev pub entries : List Kept → List MergedEntry
entries force = map entry (filter (λ (kept : Kept). kept.file == 3) force)

abbrev pub is_configured : List Kept → List ℕ → Bool
is_configured force index = is_index (entries force) index

-- the limits of an index; those of one that is not configured are what `default` and the built-in
-- values give
abbrev pub limits : List Kept → List ℕ → Limits
limits force index = life.limits (entries force) index

-- the index of events for which no other is stated
abbrev pub default_index : List Kept → List ℕ
default_index force = unwrap_or (value_of (entries force) (codes "default") (codes "defaultDatabase")) (codes "main")

-- the index of events whose own is not configured
abbrev pub last_chance : List Kept → Option (List ℕ)
last_chance force = value_of (entries force) (codes "default") (codes "lastChanceIndex")

-- the microseconds between two turns of housekeeping
abbrev pub rotation : List Kept → ℕ
rotation force = life.number (entries force) (codes "default") (codes "rotatePeriodInSecs") kinds.FromOne 60 * 1000000

-- where the events of an index go: into it, or else the last chance, or else nowhere
abbrev pub home : List Kept → List ℕ → Option (List ℕ)
home force index = if is_configured force index then Some index else last_chance force

-- the metadata with the index that holds
abbrev pub resolved : List Kept → ChannelMeta → ChannelMeta
resolved force meta = record {
  host = meta.host;
  source = meta.source;
  sourcetype = meta.sourcetype;
  index = Some (unwrap_or meta.index (default_index force));
}
