-- Where inputs.conf has no fault, what its inputs state is short, and their indexes are configured.
use Rattle.std.proofs.Common.{◌≡◌, ◌≤◌, ℕ, Bool, false, true, List, [], ◌∷◌, ◌++◌, refl, sym, ap, ◌∙◌, subst, length, Option, Some, None, arith}
use Rattle.std.proofs.lemmas.Bool.{leb-true}
use Rattle.std.proofs.lemmas.Slice.Eq.{bytes_eq-Decides}
use Rattle.std.specs.Prelude.{◌||◌, ◌&&◌, not, nat_le, is_some, IfSome, codes, bytes_eq, if◌then◌else◌, unwrap_or}
use Rattle.std.specs.List.{AllByRecursion, flat_map}
use Rattle.std.specs.Option.{option_map, option_or}
use Rattle.ix_conf.specs.Value.{entry_at, is_at}
use Rattle.ix_conf.specs.declared.layers.MergedEntry.{MergedEntry}
use Rattle.ix_conf_values.specs.Values.{own_value, stated, value_of}
use Rattle.ix_life.specs.Limits.{limits_of}
use Rattle.ix_life.specs.declared.sets.LimitSet.{LimitSet}
use Rattle.ix_monitor.specs.declared.faults.InputFault.{InputFault}
use Rattle.ix_monitor.specs.declared.faults.InputFault.TheVariants.{BadValue}
use Rattle.ix_monitor.specs.declared.inputs.Input.{Input}
use Rattle.ix_monitor.specs.Inputs.{first_fault, fault_at, is_good, is_good_value, is_judged, IsStated, input, inputs, watched, watched_with}
use Rattle.ix_monitor.specs.Inputs.{watched_at, is_disabled, value_fault, fault_with}
use Rattle.ix_monitor.specs.Paths.{path_of}

-- ---- no entry has a fault

module _ (limits : LimitSet) where
  abbrev pub IsSound : MergedEntry → Type 0
  IsSound e = fault_at limits e ≡ None

  none_first : (a b : Option InputFault) → option_or a b ≡ None → (a ≡ None) × (b ≡ None)
  none_first None b is = (refl, is)
  none_first (Some fault) b is = cc

  pub all_sound : (es : List MergedEntry) → first_fault limits es ≡ None → AllByRecursion IsSound es
  all_sound [] none = tt
  all_sound (e ∷ es) none = let both = none_first (fault_at limits e) (first_fault limits es) none in (both.0, all_sound es both.1)

  -- ---- values

  abbrev HasGoodValue : List ℕ → List ℕ → Type 0
  HasGoodValue key text = is_good limits key text ≡ true

  halves : (a b : Bool) → (a && b) ≡ true → (a ≡ true) × (b ≡ true)
  halves true b is = (refl, is)
  halves false b is = cc

  -- an entry of a stanza that is judged
  good_of : (e : MergedEntry) (b : ℕ) (key : List ℕ) → is_judged e.stanza ≡ true → value_fault limits e ≡ None → e.key ≡ b ∷ key →
      is_good limits (b ∷ key) e.value ≡ true
  good_of e b key judged none same = ap (λ (k : List ℕ). is_good limits k e.value) (sym same)
      ∙ by (is_judged e.stanza) (is_good limits e.key e.value) judged none
    where
      by : (judged good : Bool) → judged ≡ true → (if not judged || good then None else Some (BadValue e.stanza e.key)) ≡ None →
          good ≡ true
      by true true is none = refl
      by true false is none = cc
      by false good is none = cc

  good_own : (es : List MergedEntry) (stanza : List ℕ) (b : ℕ) (key : List ℕ) → AllByRecursion IsSound es → is_judged stanza ≡ true →
      IfSome (own_value es stanza (b ∷ key)) (HasGoodValue (b ∷ key))
  good_own [] stanza b key all judged = tt
  good_own (e ∷ es) stanza b key all judged = by (is_at stanza (b ∷ key) e) refl (good_own es stanza b key all.1 judged)
    where
      by : (at : Bool) → is_at stanza (b ∷ key) e ≡ at → IfSome (own_value es stanza (b ∷ key)) (HasGoodValue (b ∷ key)) →
          IfSome (option_map (λ (found : List ℕ × List ℕ). found.0) (option_map (λ (entry : MergedEntry). (entry.value, entry.layer))
          (if at then Some e else entry_at stanza (b ∷ key) es))) (HasGoodValue (b ∷ key))
      by false is rest = rest
      by true is rest =
          let parts = halves (bytes_eq stanza e.stanza) (bytes_eq (b ∷ key) e.key) is in
          let same_stanza = (bytes_eq-Decides stanza e.stanza).0 parts.0 in
          let same_key = (bytes_eq-Decides (b ∷ key) e.key).0 parts.1 in
          good_of e b key (subst (λ (s : List ℕ). is_judged s ≡ true) same_stanza judged)
          (sym (ap (fault_with limits e) (sym same_key)) ∙ all.0) (sym same_key)

  -- what is stated in a stanza, or else in `default`
  good_value : (es : List MergedEntry) (stanza : List ℕ) (b : ℕ) (key : List ℕ) → AllByRecursion IsSound es → is_judged stanza ≡ true →
      IfSome (value_of es stanza (b ∷ key)) (λ text. is_good_value limits (b ∷ key) text ≡ true)
  good_value es stanza b key all judged =
      by (own_value es stanza (b ∷ key)) (own_value es (codes "default") (b ∷ key)) (good_own es stanza b key all judged)
      (good_own es (codes "default") b key all refl)
    where
      one : (text : List ℕ) → HasGoodValue (b ∷ key) text →
          IfSome (stated (Some text)) (λ text. is_good_value limits (b ∷ key) text ≡ true)
      one [] good = tt
      one (c ∷ text) good = good

      by : (own other : Option (List ℕ)) → IfSome own (HasGoodValue (b ∷ key)) → IfSome other (HasGoodValue (b ∷ key)) →
          IfSome (stated (option_or own other)) (λ text. is_good_value limits (b ∷ key) text ≡ true)
      by None None good also = tt
      by None (Some text) good also = one text also
      by (Some text) other good also = one text good

  short_value : (o : Option (List ℕ)) → IfSome o (λ text. nat_le (length text) 1024 ≡ true) →
      IfSome o (λ (text : List ℕ). length text ≤ 1024)
  short_value None is = tt
  short_value (Some text) is = leb-true (length text) 1024 is

  -- ---- inputs

  stated_input : (es : List MergedEntry) (stanza path : List ℕ) → AllByRecursion IsSound es → is_judged stanza ≡ true →
      IsStated limits (input es stanza path)
  stated_input es stanza path all judged = record {
    host = host (value_of es stanza (codes "host")) (short_value _ (good_value es stanza 104 (codes "ost") all judged));
    source = short_value _ (good_value es stanza 115 (codes "ource") all judged);
    sourcetype = short_value _ (good_value es stanza 115 (codes "ourcetype") all judged);
    index = good_value es stanza 105 (codes "ndex") all judged;
  }
    where
      host : (o : Option (List ℕ)) → IfSome o (λ (text : List ℕ). length text ≤ 1024) → length (unwrap_or o (codes "localhost")) ≤ 1024
      host None is = let short : 9 ≤ 1024 = omega arith in short
      host (Some text) is = is

  either : (a b : Bool) → b ≡ true → (a || b) ≡ true
  either true b is = refl
  either false b is = is

  stated_watched : (es : List MergedEntry) (stanza : List ℕ) → AllByRecursion IsSound es →
      AllByRecursion (IsStated limits) (watched es stanza (path_of stanza))
  stated_watched es stanza all = by (path_of stanza) refl
    where
      by : (path : Option (List ℕ)) → path_of stanza ≡ path → AllByRecursion (IsStated limits) (watched es stanza path)
      by None is = tt
      by (Some path) is = unless (is_disabled es stanza)
        where
          unless : (off : Bool) → AllByRecursion (IsStated limits) (if off then [] else input es stanza path ∷ [])
          unless true = tt
          unless false = (
            stated_input es stanza path all (either (bytes_eq stanza (codes "default")) (is_some (path_of stanza)) (ap is_some is)),
            tt,
          )

  stated_with : (es : List MergedEntry) (e : MergedEntry) (key : List ℕ) → AllByRecursion IsSound es →
      AllByRecursion (IsStated limits) (watched_with es e key)
  stated_with es e [] all = stated_watched es e.stanza all
  stated_with es e (b ∷ key) all = tt

  both_parts : (a b : List Input) → AllByRecursion (IsStated limits) a → AllByRecursion (IsStated limits) b →
      AllByRecursion (IsStated limits) (a ++ b)
  both_parts [] b one two = two
  both_parts (x ∷ a) b one two = (one.0, both_parts a b one.1 two)

  stated_from : (es some : List MergedEntry) → AllByRecursion IsSound es → AllByRecursion (IsStated limits) (flat_map (watched_at es) some)
  stated_from es [] all = tt
  stated_from es (e ∷ some) all =
      both_parts (watched_at es e) (flat_map (watched_at es) some) (stated_with es e e.key all) (stated_from es some all)

  pub are_stated : (es : List MergedEntry) → first_fault limits es ≡ None → AllByRecursion (IsStated limits) (inputs es)
  are_stated es none = stated_from es es (all_sound es none)
