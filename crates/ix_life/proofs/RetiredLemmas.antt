-- The limits of an index that is not configured are those of `default`.
use Rattle.std.proofs.Common.{◌≡◌, ℕ, Bool, true, false, List, [], ◌∷◌, refl, sym, ap, ◌∙◌}
use Rattle.std.specs.Prelude.{Option, Some, None, is_some, codes, bytes_eq, not, ◌&&◌, ◌||◌}
use Rattle.std.specs.Option.{option_or, option_map}
use Rattle.ix_conf.specs.Value.{AreMerged, entry_at, in_file, in_layers, said_by, is_at, own}
use Rattle.ix_conf.specs.declared.entries.Entry.{Entry}
use Rattle.ix_conf.specs.declared.entries.Entry.TheVariants.{Stanza, Pair}
use Rattle.ix_conf.specs.declared.layers.Layer.{Layer}
use Rattle.ix_conf.specs.declared.layers.MergedEntry.{MergedEntry}
use Rattle.ix_conf_values.specs.Values.{own_value, stated, value_of}
use Rattle.ix_life.specs.Limits.{limits}
use Rattle.ix_life.specs.Retired.{HaveStanzas}
use Rattle.ix_life.specs.Stanzas.{is_default, is_volume, is_index, is_index_stanza}
use Rattle.ix_life.proofs.LimitsLemmas.{same_name}

-- ---- each stanza that has a key has an entry of its own

none_both : {A : Type 0} (a b : Option A) → option_or a b ≡ None → (a ≡ None) × (b ≡ None)
none_both None b h = (refl, h)
none_both (Some x) b h = cc

neither : {A : Type 0} (a b : Option A) → a ≡ None → b ≡ None → option_or a b ≡ None
neither a b g h = rw (g, h) refl

own_stanza : (name stanza key : List ℕ) → entry_at stanza [] (own name ∷ []) ≡ None → entry_at stanza key (own name ∷ []) ≡ None
own_stanza name stanza key h = by (bytes_eq stanza name) refl
  where
    by : (t : Bool) → bytes_eq stanza name ≡ t → entry_at stanza key (own name ∷ []) ≡ None
    by true e = absurd (no (rw e at h))
      where
        no : Some (own name) ≡ None → ⊥
        no e = cc
    by false e = rw e refl

pair_stanza : (name key : List ℕ) (x : MergedEntry) (stanza : List ℕ) → name ≡ x.stanza → entry_at stanza [] (own name ∷ x ∷ []) ≡ None
    → entry_at stanza key (own name ∷ x ∷ []) ≡ None
pair_stanza name key x stanza same h = by (bytes_eq stanza name) refl
  where
    by : (t : Bool) → bytes_eq stanza name ≡ t → entry_at stanza key (own name ∷ x ∷ []) ≡ None
    by true e = absurd (no (rw e at h))
      where
        no : Some (own name) ≡ None → ⊥
        no e = cc
    by false e = rw (e, sym (ap (bytes_eq stanza) same) ∙ e) refl

said_stanzas : (layer : List ℕ) (e : Entry) (stanza key : List ℕ) → entry_at stanza [] (said_by layer e) ≡ None →
    entry_at stanza key (said_by layer e) ≡ None
said_stanzas layer (Stanza name) stanza key h = own_stanza name stanza key h
said_stanzas layer (Pair name [] value) stanza key h = own_stanza name stanza key h
said_stanzas layer (Pair name (b ∷ more) value) stanza key h =
    pair_stanza name key (record { stanza = name; key = b ∷ more; value = value; layer = layer }) stanza refl h

file_stanzas : (layer : List ℕ) (file : List Entry) (stanza key : List ℕ) → in_file stanza [] layer file ≡ None →
    in_file stanza key layer file ≡ None
file_stanzas layer [] stanza key h = refl
file_stanzas layer (e ∷ es) stanza key h =
    let both = none_both (in_file stanza [] layer es) (entry_at stanza [] (said_by layer e)) h in
    neither (in_file stanza key layer es) (entry_at stanza key (said_by layer e))
    (file_stanzas layer es stanza key both.0) (said_stanzas layer e stanza key both.1)

layer_stanzas : (layers : List Layer) (stanza key : List ℕ) → in_layers stanza [] layers ≡ None → in_layers stanza key layers ≡ None
layer_stanzas [] stanza key h = refl
layer_stanzas (l ∷ ls) stanza key h =
    let both = none_both (in_file stanza [] l.name l.file) (in_layers stanza [] ls) h in
    neither (in_file stanza key l.name l.file) (in_layers stanza key ls) (file_stanzas l.name l.file stanza key both.0)
    (layer_stanzas ls stanza key both.1)

pub merged_stanzas : (layers : List Layer) (entries : List MergedEntry) → AreMerged layers entries → HaveStanzas entries
merged_stanzas layers entries merged stanza key none =
    merged.entry stanza key ∙ layer_stanzas layers stanza key (sym (merged.entry stanza []) ∙ none)

-- ---- an index that is not configured has no value of its own

-- it is `default`, or it has no stanza
default_or_gone : (m d v s : Bool) → (m || ((not d && not v) && s)) ≡ false → v ≡ false → d ≡ false → s ≡ false
default_or_gone true d v s h g k = cc
default_or_gone false true v s h g k = cc
default_or_gone false false true s h g k = cc
default_or_gone false false false s h g k = h

absent : {A : Type 0} (o : Option A) → is_some o ≡ false → o ≡ None
absent None h = refl
absent (Some x) h = cc

twice : {A : Type 0} (o : Option A) → option_or o o ≡ o
twice None = refl
twice (Some x) = refl

no_own : (entries : List MergedEntry) → HaveStanzas entries → (name key : List ℕ) → entry_at name [] entries ≡ None →
    own_value entries name key ≡ None
no_own entries have name [] none = refl
no_own entries have name (b ∷ key) none = rw (have name (b ∷ key) none) refl

abbrev Defaults : List MergedEntry → List ℕ → Type 0
Defaults entries name = (key : List ℕ) → value_of entries name key ≡ value_of entries (codes "default") key

defaults : (entries : List MergedEntry) → HaveStanzas entries → (name : List ℕ) → is_volume name ≡ false → is_index entries name ≡ false →
    Defaults entries name
defaults entries have name other gone key = by (is_default name) refl
  where
    by : (b : Bool) → is_default name ≡ b → value_of entries name key ≡ value_of entries (codes "default") key
    by true e = ap (λ n. value_of entries n key) (same_name name (codes "default") e)
    by false e =
        let none = absent (entry_at name [] entries)
        (default_or_gone (bytes_eq name (codes "main")) (is_default name) (is_volume name) (is_some (entry_at name [] entries)) gone other
        e) in
        let of_default = own_value entries (codes "default") key in
        ap (λ (o : Option (List ℕ)). stated (option_or o of_default)) (no_own entries have name key none)
        ∙ ap stated (sym (twice of_default))

pub retired_limits : (entries : List MergedEntry) → HaveStanzas entries → (name : List ℕ) → is_volume name ≡ false →
    is_index entries name ≡ false
    → limits entries name ≡ limits entries (codes "default")
retired_limits entries have name other gone =
    let v = defaults entries have name other gone in
    rw (
      v (codes "maxDataSize"),
      v (codes "maxHotBuckets"),
      v (codes "maxHotSpanSecs"),
      v (codes "maxHotIdleSecs"),
      v (codes "maxWarmDBCount"),
      v (codes "frozenTimePeriodInSecs"),
      v (codes "maxTotalDataSizeMB"),
      v (codes "homePath.maxDataSizeMB"),
      v (codes "coldPath.maxDataSizeMB"),
      v (codes "quarantinePastSecs"),
      v (codes "quarantineFutureSecs"),
      v (codes "coldToFrozenDir"),
    ) refl
