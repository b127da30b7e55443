-- The value of a key over layers of files. From Splunk's Admin Manual, "Configuration file
-- precedence".
use Rattle.std.specs.Prelude.{◌≡◌, ◌&&◌, if◌then◌else◌, ℕ, Bool, List, [], ◌∷◌, Option, Some, None, bytes_eq}
use Rattle.std.specs.Option.{option_map, option_or}
use Rattle.std.specs.List.{AllByRecursion}
use Rattle.std.specs.declared.cmp.Ordering.{Ordering}
use Rattle.std.specs.declared.cmp.Ordering.TheVariants.{Less}
use Rattle.std.specs.Ordering.{ordering_then, nat_cmp}
use Rattle.std.specs.Cmp.Lexicographic.{slice_cmp}
use Rattle.ix_conf.specs.declared.entries.Entry.{Entry}
use Rattle.ix_conf.specs.declared.entries.Entry.TheVariants.{Stanza, Pair}
use Rattle.ix_conf.specs.declared.layers.Layer.{Layer}
use Rattle.ix_conf.specs.declared.layers.MergedEntry.{MergedEntry}

-- a stanza's own entry, with an empty key, value and layer
abbrev pub own : List ℕ → MergedEntry
own stanza = record { stanza = stanza; key = []; value = []; layer = [] }

-- what an entry of a file says, in the layer of this name: its stanza is there, and a key of at
-- least one byte has a value
abbrev pub said_by : List ℕ → Entry → List MergedEntry
said_by layer (Stanza name) = own name ∷ []
said_by layer (Pair stanza [] value) = own stanza ∷ []
said_by layer (Pair stanza (b ∷ key) value) = own stanza ∷ record { stanza = stanza; key = b ∷ key; value = value; layer = layer } ∷ []

abbrev pub is_at : List ℕ → List ℕ → MergedEntry → Bool
is_at stanza key entry = bytes_eq stanza entry.stanza && bytes_eq key entry.key

-- the first entry of a stanza and key
abbrev pub entry_at : List ℕ → List ℕ → List MergedEntry → Option MergedEntry
entry_at stanza key [] = None
entry_at stanza key (entry ∷ entries) = if is_at stanza key entry then Some entry else entry_at stanza key entries

-- in one file the last one counts
abbrev pub in_file : List ℕ → List ℕ → List ℕ → List Entry → Option MergedEntry
in_file stanza key layer [] = None
in_file stanza key layer (entry ∷ entries) = option_or (in_file stanza key layer entries) (entry_at stanza key (said_by layer entry))

-- and the first layer that has one, highest first
abbrev pub in_layers : List ℕ → List ℕ → List Layer → Option MergedEntry
in_layers stanza key [] = None
in_layers stanza key (layer ∷ layers) = option_or (in_file stanza key layer.name layer.file) (in_layers stanza key layers)

-- the order of entries: by the bytes of their stanza, and then by those of their key
abbrev pub Place : Type 0
Place = List ℕ × List ℕ

abbrev pub place : MergedEntry → Place
place entry = (entry.stanza, entry.key)

abbrev pub place_cmp : Place → Place → Ordering
place_cmp p q = ordering_then (slice_cmp nat_cmp p.0 q.0) (slice_cmp nat_cmp p.1 q.1)

abbrev pub IsBefore : MergedEntry → MergedEntry → Type 0
IsBefore entry other = place_cmp (place entry) (place other) ≡ Less

-- each entry stands before all that follow it, so that none has the stanza and key of another
abbrev pub IsAscending : List MergedEntry → Type 0
IsAscending [] = Unit {0}
IsAscending (entry ∷ entries) = AllByRecursion (IsBefore entry) entries × IsAscending entries

-- the value of a key among merged entries, with the layer that it comes from
abbrev pub value_at : List ℕ → List ℕ → List MergedEntry → Option (List ℕ × List ℕ)
value_at stanza [] entries = None
value_at stanza (b ∷ key) entries = option_map (λ (entry : MergedEntry). (entry.value, entry.layer)) (entry_at stanza (b ∷ key) entries)

-- the merged entries of layers, in order
pub record AreMerged (layers : List Layer) (entries : List MergedEntry) : Type 0 where
  pub ascending : IsAscending entries
  pub entry : (stanza key : List ℕ) → entry_at stanza key entries ≡ in_layers stanza key layers
