-- The settings of a selftest give what a store goes by.
use Rattle.std.proofs.Common.{◌≡◌, ◌≤◌, ◌∙◌, ℕ, Bool, true, false, ◌&&◌, ◌||◌, List, [], ◌∷◌, length, refl, sym, ap, arith}
use Rattle.std.proofs.Common.{Option, Some, None, codes}
use Rattle.std.specs.Prelude.{if◌then◌else◌, bytes_eq, is_some}
use Rattle.std.specs.Option.{option_or}
use Rattle.ix_conf.specs.Value.{is_at}
use Rattle.ix_conf.specs.declared.layers.MergedEntry.{MergedEntry}
use Rattle.ix_items.specs.declared.items.Kept.{Kept}
use Rattle.ix_life.specs.Limits.{AreLimits, limits, listed}
use Rattle.ix_life.specs.Stanzas.{is_index_stanza}
use Rattle.ix_life.specs.declared.limits.Limits.{Limits}
use Rattle.ix_life.specs.declared.sets.LimitSet.{LimitSet}
use Rattle.ix_model.specs.Given.{entries, entry}
use Rattle.ix_model.specs.declared.commands.Config.{Config}
use Rattle.ix_model.proofs.Named.{same_bytes}
use Rattle.ix_state.specs.Configs.{AreInOrder, AreProps, IsConfig, IsWhole, built_in, layer_in}
use Rattle.ix_state.proofs.Merged.{merged_exist}
use Rattle.indexd_selftest.specs.History.{of_main, settings}

-- ---- the three entries

abbrev stanza_entry : MergedEntry
stanza_entry = entry (of_main [] [])

abbrev size_entry : MergedEntry
size_entry = entry (of_main (codes "maxDataSize") (codes "1"))

abbrev total_entry : MergedEntry
total_entry = entry (of_main (codes "maxTotalDataSizeMB") (codes "2"))

right_of : (a b : Bool) → (a && b) ≡ true → b ≡ true
right_of true b is = is
right_of false b is = cc

-- no key is both
not_both : (stanza key : List ℕ) → is_at stanza key size_entry ≡ true → is_at stanza key total_entry ≡ true → ⊥
not_both stanza key size total =
    let one = same_bytes key (codes "maxDataSize") (right_of (bytes_eq stanza (codes "main")) (bytes_eq key (codes "maxDataSize")) size) in
    let other = same_bytes key (codes "maxTotalDataSizeMB")
    (right_of (bytes_eq stanza (codes "main")) (bytes_eq key (codes "maxTotalDataSizeMB")) total) in
    let lengths : 11 ≡ 18 = ap length (sym one ∙ other) in
    omega (arith, lengths)

-- whichever stands first, where they exclude each other
chosen : (a b c : Bool) → (b ≡ true → c ≡ true → ⊥) →
    (if a then Some stanza_entry else if b then Some size_entry else if c then Some total_entry else None)
    ≡ option_or (option_or (option_or (option_or None (if a then Some stanza_entry else if c then Some total_entry else None))
    (if a then Some stanza_entry else if b then Some size_entry else None)) (if a then Some stanza_entry else None)) None
chosen true true true apart = refl
chosen true true false apart = refl
chosen true false true apart = refl
chosen true false false apart = refl
chosen false true true apart = absurd (apart refl refl)
chosen false true false apart = refl
chosen false false true apart = refl
chosen false false false apart = refl

indexes_whole : IsWhole 3 settings
indexes_whole = record {
  ascending = ((refl, (refl, tt)), ((refl, tt), (tt, tt)));
  entry = λ stanza key. chosen (is_at stanza key stanza_entry) (is_at stanza key size_entry) (is_at stanza key total_entry)
      (not_both stanza key);
}

in_order : AreInOrder settings
in_order = record {
  files = ((omega arith, omega arith), ((omega arith, omega arith), ((omega arith, omega arith), tt)));
  props = record { ascending = tt; entry = λ stanza key. refl };
  transforms = record { ascending = tt; entry = λ stanza key. refl };
  indexes = indexes_whole;
  zones = record { ascending = tt; entry = λ stanza key. refl };
}

short_name : length (codes "main") ≤ 1024
short_name = let is : length (codes "main") ≡ 4 = refl in omega (arith, is)

-- ---- no settings of channels

no_props : AreProps settings []
no_props =
    let zones = merged_exist (layer_in 4 settings ∷ built_in ∷ []) in
    record {
      props = [];
      transforms = [];
      zones = zones.0;
      props_are = record { ascending = tt; entry = λ stanza key. refl };
      transforms_are = record { ascending = tt; entry = λ stanza key. refl };
      zones_are = zones.1;
      read = tt;
    }

-- ---- the limits of one index

abbrev set : LimitSet
set = record {
  default_database = codes "main";
  last_chance = None;
  rotate_secs = 60;
  indexes = listed (entries settings);
  retired = limits (entries settings) (codes "default");
}

no_index : (t : Bool) (found : Limits) → (let none : Option Limits = None in none ≡ (if (t && false) then Some found else None))
no_index true found = refl
no_index false found = refl

-- what is said of an index whose name is that of the stanza, or not
abbrev IsSaid : List ℕ → Bool → Type 0
IsSaid index same =
    (if same then Some (limits (entries settings) (codes "main")) else None)
    ≡ (if (same || (is_index_stanza index && is_some (
    if (same && bytes_eq [] []) then Some stanza_entry
    else if (same && bytes_eq [] (codes "maxDataSize")) then Some size_entry
    else if (same && bytes_eq [] (codes "maxTotalDataSizeMB")) then Some total_entry
    else None))) then Some (limits (entries settings) index) else None)

said : (index : List ℕ) (same : Bool) → bytes_eq index (codes "main") ≡ same → IsSaid index same
said index true is =
    ap (λ (name : List ℕ). Some (limits (entries settings) name)) (sym (same_bytes index (codes "main") is))
said index false is = no_index (is_index_stanza index) (limits (entries settings) index)

are_limits : AreLimits (entries settings) set
are_limits = record {
  default_database = refl;
  last_chance = refl;
  rotate_secs = refl;
  retired = refl;
  listed = refl;
  limits = λ index. said index (bytes_eq index (codes "main")) refl;
}

-- ---- the whole

abbrev given : Config
given = record { props = []; limits = set; kept = settings }

is_config : IsConfig given
is_config = record {
  order = in_order;
  stanzas = (short_name, (short_name, (short_name, tt)));
  props = no_props;
  limits = record { sound = refl; limits = are_limits };
}

-- there are settings of which no program finds that they give nothing
pub is_sound : (kept : List Kept) → kept ≡ settings → ((config : Config) → IsConfig config → config.kept ≡ kept → ⊥) → ⊥
is_sound kept is none = none given is_config (sym is)
