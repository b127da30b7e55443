-- Indexes and source types that settings name have names of at most 1,024 bytes, where the stanzas
-- of what is kept have.
use Rattle.std.proofs.Common.{◌≡◌, ℕ, ◌≤◌, ◌<◌, ◌^◌, Bool, true, false, List, [], ◌∷◌, map, refl, sym, ap, ◌∙◌, subst, length, arith}
use Rattle.std.specs.Prelude.{Option, Some, None, IfSome, is_some, if◌then◌else◌, ◌==◌, ◌&&◌, ◌||◌, nat_le, codes, bytes_eq, filter}
use Rattle.std.specs.Prelude.{unwrap_or}
use Rattle.std.specs.List.{AllByRecursion}
use Rattle.std.specs.Option.{option_map, option_or}
use Rattle.std.proofs.lemmas.Bool.{leb-true}
use Rattle.ix_conf.specs.Value.{is_at, entry_at}
use Rattle.ix_conf.specs.declared.layers.MergedEntry.{MergedEntry}
use Rattle.ix_items.specs.declared.items.Kept.{Kept}
use Rattle.ix_state.specs.Configs.{AreProps}
use Rattle.ix_life.specs.Limits.{is_good, fault_at, value_fault, fault_with, first_of, first_fault}
use Rattle.ix_life.specs.Stanzas.{is_volume, is_index_stanza, is_index}
use Rattle.ix_life.specs.declared.faults.LimitFault.{LimitFault}
use Rattle.ix_life.specs.declared.faults.LimitFault.TheVariants.{BadValue}
use Rattle.ix_life.specs.declared.sets.LimitSet.{LimitSet}
use Rattle.ix_model.specs.Given.{entry, entries, is_configured, default_index, last_chance, home}
use Rattle.ix_model.proofs.Named.{by_test, same_bytes}
use Rattle.ix_props.specs.Choice.{value_in, HoldsForSource, IsChosen}
use Rattle.ix_props.specs.Kinds.{is_ignored, entry_kind, event_kind, time_kind, class_kind}
use Rattle.ix_props.specs.Props.{IsOfKind, AreRead}
use Rattle.ix_props.specs.Settings.{name_or, IsSourceType}
use Rattle.ix_props.specs.Values.{name}
use Rattle.ix_props.specs.declared.props.PropsEntry.{PropsEntry}
use Rattle.ix_props.specs.declared.values.Value.{Value}
use Rattle.ix_props.specs.declared.values.Value.TheVariants as value
use Rattle.ix_model.specs.Shelved.{IsSet}
use Rattle.ix_conf_values.specs.Values.{stated, value_of}

false_true : false ≡ true → ⊥
false_true e = cc

none_some : {X : Type 0} {x : X} → None ≡ Some x → ⊥
none_some e = cc

some_same : {X : Type 0} {x y : X} → Some x ≡ Some y → x ≡ y
some_same e = cc

both_are : (a b : Bool) → (a && b) ≡ true → (a ≡ true) × (b ≡ true)
both_are true b e = (refl, e)
both_are false b e = absurd (false_true e)

abbrev pub IsBrief : List ℕ → Type 0
IsBrief text = length text ≤ 1024

-- ---- indexes that are configured

-- the stanzas of what is kept, and those of its entries
abbrev pub AreBrief : List Kept → Type 0
AreBrief force = AllByRecursion (λ (kept : Kept). length kept.stanza ≤ 1024) force

abbrev EntriesAreBrief : List MergedEntry → Type 0
EntriesAreBrief es = AllByRecursion (λ (e : MergedEntry). IsBrief e.stanza) es

some_of : (test : Kept → Bool) (force : List Kept) → AreBrief force → EntriesAreBrief (map entry (filter test force))
some_of test [] h = tt
some_of test (k ∷ force) h =
    by_test (test k)
    (λ t. rw t (h.0, some_of test force h.1))
    (λ t. rw t (some_of test force h.1))

entry_brief : (name : List ℕ) (es : List MergedEntry) → EntriesAreBrief es → is_some (entry_at name [] es) ≡ true → IsBrief name
entry_brief name [] h e = absurd (false_true e)
entry_brief name (x ∷ es) h e =
    by_test (is_at name [] x)
    (λ t. subst IsBrief (sym (same_bytes name x.stanza (both_are (bytes_eq name x.stanza) (bytes_eq [] x.key) t).0)) h.0)
    (λ t. entry_brief name es h.1 (rw t at e))

main_brief : IsBrief (codes "main")
main_brief = let short : 4 ≤ 1024 = omega arith in short

pub configured_brief : (force : List Kept) (name : List ℕ) → AreBrief force → is_configured force name ≡ true → IsBrief name
configured_brief force name h e =
    by_test (bytes_eq name (codes "main"))
    (λ t. subst IsBrief (sym (same_bytes name (codes "main") t)) main_brief)
    (λ t. (let both = both_are (is_index_stanza name) (is_some (entry_at name [] (entries force))) (rw t at e) in
    entry_brief name (entries force) (some_of (λ (kept : Kept). kept.file == 3) force h) both.1))

-- ---- a setting of `default` that names an index names one that is configured

neither : (a b : Option LimitFault) → option_or a b ≡ None → (a ≡ None) × (b ≡ None)
neither None b m = (refl, m)
neither (Some f) b m = absurd (none_some (sym m))

no_fault_passes : (b : Bool) (f : LimitFault) → (if b then None else Some f) ≡ None → b ≡ true
no_fault_passes true f h = refl
no_fault_passes false f h = absurd (none_some (sym h))

no_fault_here : (all es : List MergedEntry) (stanza key : List ℕ) (e : MergedEntry) → first_of all es ≡ None →
    entry_at stanza key es ≡ Some e →
    (fault_at all e ≡ None) × (is_at stanza key e ≡ true)
no_fault_here all [] stanza key e n h = absurd (none_some h)
no_fault_here all (x ∷ es) stanza key e n h =
    let both = neither (fault_at all x) (first_of all es) n in
    by_test (is_at stanza key x)
    (λ t. (let same : x ≡ e = some_same (rw t at h) in
    (ap (fault_at all) (sym same) ∙ both.0, ap (is_at stanza key) (sym same) ∙ t)))
    (λ t. no_fault_here all es stanza key e both.1 (rw t at h))

abbrev fault_by : List MergedEntry → List ℕ → List ℕ → List ℕ → Option LimitFault
fault_by all stanza key value = if is_volume stanza || is_good all stanza key value then None else Some (BadValue stanza key)

-- the value is judged by whether it is an index
abbrev NamesAnIndex : List MergedEntry → List ℕ → Type 0
NamesAnIndex all key = (b : ℕ) (bs : List ℕ) → is_good all (codes "default") key (b ∷ bs) ≡ is_index all (b ∷ bs)

module _ (all : List MergedEntry) (k : ℕ) (rest : List ℕ) (names : NamesAnIndex all (k ∷ rest)) where
  entry_names : (e : MergedEntry) (value name : List ℕ) → e.value ≡ value → fault_at all e ≡ None →
      is_at (codes "default") (k ∷ rest) e ≡ true → stated (Some value) ≡ Some name →
      is_index all name ≡ true
  entry_names e [] name v n t h = absurd (none_some h)
  entry_names e (b ∷ bs) name v n t h =
      let both = both_are (bytes_eq (codes "default") e.stanza) (bytes_eq (k ∷ rest) e.key) t in
      let stanza_is : codes "default" ≡ e.stanza = same_bytes (codes "default") e.stanza both.0 in
      let key_is : k ∷ rest ≡ e.key = same_bytes (k ∷ rest) e.key both.1 in
      let value_good : value_fault all e ≡ None = subst (λ (l : List ℕ). fault_with all e l ≡ None) (sym key_is) n in
      let good : fault_by all (codes "default") (k ∷ rest) (b ∷ bs) ≡ None =
      ap (λ (s : List ℕ). fault_by all s (k ∷ rest) (b ∷ bs)) stanza_is
      ∙ ap (λ (l : List ℕ). fault_by all e.stanza l (b ∷ bs)) key_is
      ∙ ap (λ (u : List ℕ). fault_by all e.stanza e.key u) (sym v)
      ∙ value_good in
      subst (λ (m : List ℕ). is_index all m ≡ true) (some_same h)
      (sym (names b bs) ∙ no_fault_passes (is_good all (codes "default") (k ∷ rest) (b ∷ bs)) (BadValue (codes "default") (k ∷ rest)) good)

  abbrev value_by : Option MergedEntry → Option (List ℕ)
  value_by o = option_map (λ (x : List ℕ × List ℕ). x.0) (option_map (λ (e : MergedEntry). (e.value, e.layer)) o)

  value_names : (name : List ℕ) → first_fault all ≡ None → value_of all (codes "default") (k ∷ rest) ≡ Some name → is_index all name ≡ true
  value_names name sound h = by (entry_at (codes "default") (k ∷ rest) all) refl h
    where
      by : (o : Option MergedEntry) → entry_at (codes "default") (k ∷ rest) all ≡ o →
          stated (option_or (value_by o) (value_by o)) ≡ Some name → is_index all name ≡ true
      by None e found = absurd (none_some found)
      by (Some x) e found =
          let both = no_fault_here all all (codes "default") (k ∷ rest) x sound e in
          entry_names x x.value name refl both.0 both.1 found

module _ (force : List Kept) (brief : AreBrief force) (sound : first_fault (entries force) ≡ None) where
  default_by : (o : Option (List ℕ)) → value_of (entries force) (codes "default") (codes "defaultDatabase") ≡ o →
      IsBrief (unwrap_or o (codes "main"))
  default_by None e = main_brief
  default_by (Some name) e = configured_brief force name brief
      (value_names (entries force) 100 (codes "efaultDatabase") (λ b bs. refl) name sound e)

  pub default_brief : IsBrief (default_index force)
  default_brief = default_by (value_of (entries force) (codes "default") (codes "defaultDatabase")) refl

  chance_configured : (name : List ℕ) → last_chance force ≡ Some name → is_configured force name ≡ true
  chance_configured name e = value_names (entries force) 108 (codes "astChanceIndex") (λ b bs. refl) name sound e

  pub home_brief : (index name : List ℕ) → home force index ≡ Some name → IsBrief name
  home_brief index name e =
      configured_brief force name brief
      (by_test (is_configured force index)
      (λ t. subst (λ (n : List ℕ). is_configured force n ≡ true) (some_same (rw t at e)) t)
      (λ t. chance_configured name (rw t at e)))

  chance_brief : (name : List ℕ) → last_chance force ≡ Some name → IsBrief name
  chance_brief name e = configured_brief force name brief (chance_configured name e)

-- by the limits that were loaded, with room for more beside it
pub last_chance_brief : (force : List Kept) (set : LimitSet) → IsSet force set → AreBrief force →
    IfSome set.last_chance (λ (name : List ℕ). length name < 2 ^ 30)
last_chance_brief force set is brief = by set.last_chance (sym is.limits.last_chance)
  where
    by : (o : Option (List ℕ)) → last_chance force ≡ o → IfSome o (λ (name : List ℕ). length name < 2 ^ 30)
    by None e = tt
    by (Some name) e = let short = chance_brief force brief is.sound name e in omega (arith, short)

-- ---- source types

-- what a value gives for a source type
abbrev IsBriefValue : Value → Type 0
IsBriefValue v = IsBrief (name_or (codes "unknown") (Some v))

unknown_brief : IsBrief (codes "unknown")
unknown_brief = let short : 7 ≤ 1024 = omega arith in short

name_is : (text : List ℕ) (v : Value) → option_map value.Name (name text) ≡ Some v → IsBriefValue v
name_is text v e =
    by_test (nat_le 1 (length text) && nat_le (length text) 1024)
    (λ t. (let brief : length text ≤ 1024 = leb-true (length text) 1024 (both_are (nat_le 1 (length text)) (nat_le (length text) 1024) t).1
    in
    subst IsBriefValue (some_same (rw t at e)) brief))
    (λ t. absurd (none_some (rw t at e)))

nothing_is : (v : Value) → v ≡ value.Nothing → IsBriefValue v
nothing_is v e = subst IsBriefValue (sym e) unknown_brief

-- an entry with this key
value_is : (transforms zones : List MergedEntry) (e : MergedEntry) (v : Value) → e.key ≡ codes "sourcetype" →
    IsOfKind transforms zones (entry_kind e) e v → IsBriefValue v
unfolding event_kind time_kind class_kind
value_is transforms zones e v k h =
    by_test (is_ignored e.stanza)
    (λ t. nothing_is v (rw t at h))
    (λ t. by_test (length e.value == 0)
    (λ u. nothing_is v (rw (t, k, u) at h))
    (λ u. name_is e.value v (rw (t, k, u) at h)))

found_brief : (transforms zones es : List MergedEntry) (props : List PropsEntry) (stanza : List ℕ) (v : Value) →
    AreRead transforms zones es props →
    value_in stanza (codes "sourcetype") props ≡ Some v → IsBriefValue v
found_brief transforms zones [] [] stanza v h e = absurd (none_some e)
found_brief transforms zones [] (x ∷ props) stanza v h e = absurd h
found_brief transforms zones (s ∷ es) [] stanza v h e = absurd h
found_brief transforms zones (s ∷ es) (x ∷ props) stanza v h e =
    by_test (bytes_eq stanza x.stanza && bytes_eq (codes "sourcetype") x.key)
    (λ t. (let key : codes "sourcetype" ≡ x.key = same_bytes (codes "sourcetype") x.key
    (both_are (bytes_eq stanza x.stanza) (bytes_eq (codes "sourcetype") x.key) t).1 in
    subst IsBriefValue (some_same (rw t at e)) (value_is transforms zones s x.value (sym h.0.key ∙ sym key) h.0.value)))
    (λ t. found_brief transforms zones es props stanza v h.1 (rw t at e))

chosen_brief : (force : List Kept) (props : List PropsEntry) (source : List ℕ) (found : Option Value) → AreProps force props →
    IsChosen props (HoldsForSource props source) (codes "sourcetype") found → IsBrief (name_or (codes "unknown") found)
chosen_brief force props source None h c = unknown_brief
chosen_brief force props source (Some v) h c = found_brief h.transforms h.zones h.props props c.stanza v h.read c.has

pub source_type_brief : (force : List Kept) (props : List PropsEntry) (given : Option (List ℕ)) (source sourcetype : List ℕ) →
    AreProps force props →
    IfSome given (λ (name : List ℕ). length name ≤ 1024) → IsSourceType props given source sourcetype → IsBrief sourcetype
source_type_brief force props (Some name) source sourcetype h b is = subst IsBrief (sym is) b
source_type_brief force props None source sourcetype h b is = subst IsBrief (sym is.2) (chosen_brief force props source is.0 h is.1)
