-- The limits of an index that is not configured.
use Rattle.std.specs.Prelude.{◌≡◌, ℕ, false, List, [], None, codes}
use Rattle.ix_conf.specs.Value.{AreMerged, entry_at}
use Rattle.ix_conf.specs.declared.layers.Layer.{Layer}
use Rattle.ix_conf.specs.declared.layers.MergedEntry.{MergedEntry}
use Rattle.ix_life.specs.Limits.{limits}
use Rattle.ix_life.specs.Stanzas.{is_volume, is_index}

-- a stanza without an entry of its own has no keys
abbrev pub HaveStanzas : List MergedEntry → Type 0
HaveStanzas entries = (stanza key : List ℕ) → entry_at stanza [] entries ≡ None → entry_at stanza key entries ≡ None

-- An index that is not configured has the limits of `default`. No index has the name of a volume.
abbrev pub HaveRetiredLimits : Type 0
HaveRetiredLimits =
    (layers : List Layer) (entries : List MergedEntry) → AreMerged layers entries → (name : List ℕ) → is_volume name ≡ false
    → is_index entries name ≡ false → limits entries name ≡ limits entries (codes "default")
