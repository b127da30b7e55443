-- The pattern for breaks of the settings of a channel is sound, as every pattern is that was read:
-- for the law `settings_are_usable`.
use Rattle.std.proofs.Common.{◌≡◌, ℕ, Bool, true, false, List, [], ◌∷◌, Some, None, refl, sym, ap, ◌∙◌, subst, codes}
use Rattle.std.specs.Prelude.{Option, ◌&&◌, bytes_eq, if◌then◌else◌}
use Rattle.std.specs.Option.{option_map}
use Rattle.ix_base.specs.declared.events.ChannelMeta.{ChannelMeta}
use Rattle.ix_conf.specs.declared.layers.MergedEntry.{MergedEntry}
use Rattle.ix_pattern.specs.Piece.{IsSound, Piece}
use Rattle.ix_pattern.specs.Rows.{Shape, tree}
use Rattle.ix_pattern.proofs.ReadsLemmas.{syntax-sound}
use Rattle.ix_props.specs.Choice.{Holds, IsChosen, value_in}
use Rattle.ix_props.specs.Kinds.{entry_kind}
use Rattle.ix_props.specs.Props.{IsOfKind, IsRead, AreRead}
use Rattle.ix_props.specs.Settings.{IsBreakerOf, origin_of, AreSettings}
use Rattle.ix_props.specs.Values.{IsBreakerShape, IsStanza, source_pattern, host_pattern, plain_value, name}
use Rattle.ix_props.specs.declared.kinds.Kind.{Kind}
use Rattle.ix_props.specs.declared.kinds.Kind.TheVariants as kind
use Rattle.ix_props.specs.declared.props.PropsEntry.{PropsEntry}
use Rattle.ix_props.specs.declared.settings.Settings.{Settings}
use Rattle.ix_props.specs.declared.values.Value.{Value}
use Rattle.ix_props.specs.declared.values.Value.TheVariants as value
use Rattle.ix_conf_values.specs.Formats.{format}
use Rattle.ix_conf_values.specs.Patterns.{ReadsAs}
use Rattle.ix_conf_values.specs.Plain.{boolean, count_in, number_in}

-- what is read is sound
read_sound : (text : List ℕ) (p : Shape) → ReadsAs text p → IsSound (tree p.rows)
read_sound text p r =
    subst IsSound (sym r.is_read.pattern.tree_is) (syntax-sound r.syntax 0 r.is_read.within.spelled.allowed r.is_read.sound)

no_map : {X : Type 0} (f : X → Value) (o : Option X) (v : Value) → ((x : X) → f x ≡ v → ⊥) → option_map f o ≡ Some v → ⊥
no_map f None v never e = cc
no_map f (Some x) v never e = never x (cc)

no_stanza : (a b : Option (List ℕ)) (p : Shape) → IsStanza a b (value.Pattern p) → ⊥
no_stanza (Some t) b p is = is
no_stanza None (Some t) p is = is
no_stanza None None p is = cc

of_kind : (ts zs : List MergedEntry) (k : Kind) (e : MergedEntry) (p : Shape) → IsOfKind ts zs k e (value.Pattern p) → IsSound (tree p.rows)
of_kind ts zs kind.Unread e p is = absurd (f is)
  where
    f : value.Pattern p ≡ value.Nothing → ⊥
    f h = cc
of_kind ts zs kind.Stanza e p is = absurd (no_stanza (source_pattern e) (host_pattern e) p is)
of_kind ts zs kind.Breaker e p is = read_sound e.value p is.is_read
of_kind ts zs kind.Pattern e p is = read_sound e.value p is
of_kind ts zs kind.Boolean e p is = absurd (no_map value.Boolean (boolean e.value) (value.Pattern p) (λ x h. cc) is)
of_kind ts zs (kind.Count least most) e p is = absurd (no_map value.Count (count_in least most e.value) (value.Pattern p) (λ x h. cc) is)
of_kind ts zs kind.Lookahead e p is = absurd (no_map value.Number _ (value.Pattern p) (λ x h. cc) is)
of_kind ts zs kind.Priority e p is = absurd (no_map value.Number _ (value.Pattern p) (λ x h. cc) is)
of_kind ts zs kind.Format e p is = absurd (no_map value.Format (format e.value) (value.Pattern p) (λ x h. cc) is)
of_kind ts zs kind.Zone e p is = absurd is
of_kind ts zs kind.Change e p is = absurd is
of_kind ts zs kind.Transforms e p is = absurd is
of_kind ts zs kind.Name e p is = absurd (no_map value.Name (name e.value) (value.Pattern p) (λ x h. cc) is)

by_value : (t : Bool) (v : Value) (o : Option Value) (p : Shape) → (v ≡ value.Pattern p → IsSound (tree p.rows)) →
    (o ≡ Some (value.Pattern p) → IsSound (tree p.rows)) →
    (if t then Some v else o) ≡ Some (value.Pattern p) → IsSound (tree p.rows)
by_value true v o p here there e = here (cc)
by_value false v o p here there e = there e

among : (ts zs es : List MergedEntry) (entries : List PropsEntry) (stanza key : List ℕ) (p : Shape) → AreRead ts zs es entries →
    value_in stanza key entries ≡ Some (value.Pattern p) → IsSound (tree p.rows)
among ts zs es [] stanza key p read e = absurd (f e)
  where
    f : None ≡ Some (value.Pattern p) → ⊥
    f h = cc
among ts zs [] (x ∷ xs) stanza key p read e = absurd read
among ts zs (m ∷ es) (x ∷ xs) stanza key p read e =
    by_value (bytes_eq stanza x.stanza && bytes_eq key x.key) x.value (value_in stanza key xs) p
    (λ h. of_kind ts zs (entry_kind m) m p (subst (IsOfKind ts zs (entry_kind m) m) h read.0.value))
    (λ h. among ts zs es xs stanza key p read.1 h) e

of_breaker : (v : Option Value) (q : Shape) → ((p : Shape) → v ≡ Some (value.Pattern p) → IsSound (tree p.rows)) → IsBreakerOf v q →
    IsSound (tree q.rows)
of_breaker None q read is = read_sound (codes "([\\r\\n]+)") q is.is_read
of_breaker (Some value.Nothing) q read is = read_sound (codes "([\\r\\n]+)") q is.is_read
of_breaker (Some (value.Source x)) q read is = read_sound (codes "([\\r\\n]+)") q is.is_read
of_breaker (Some (value.Host x)) q read is = read_sound (codes "([\\r\\n]+)") q is.is_read
of_breaker (Some (value.Pattern x)) q read is = subst (λ (z : Shape). IsSound (tree z.rows)) (sym is) (read x refl)
of_breaker (Some (value.Boolean x)) q read is = read_sound (codes "([\\r\\n]+)") q is.is_read
of_breaker (Some (value.Count x)) q read is = read_sound (codes "([\\r\\n]+)") q is.is_read
of_breaker (Some (value.Number x)) q read is = read_sound (codes "([\\r\\n]+)") q is.is_read
of_breaker (Some (value.Format x)) q read is = read_sound (codes "([\\r\\n]+)") q is.is_read
of_breaker (Some (value.Zone x)) q read is = read_sound (codes "([\\r\\n]+)") q is.is_read
of_breaker (Some (value.Change x)) q read is = read_sound (codes "([\\r\\n]+)") q is.is_read
of_breaker (Some (value.Transforms x)) q read is = read_sound (codes "([\\r\\n]+)") q is.is_read
of_breaker (Some (value.Name x)) q read is = read_sound (codes "([\\r\\n]+)") q is.is_read

chosen_sound : (ts zs es : List MergedEntry) (entries : List PropsEntry) (meta : ChannelMeta) (sourcetype : List ℕ) (v : Option Value) →
    AreRead ts zs es entries →
    IsChosen entries (Holds entries (origin_of meta sourcetype)) (codes "LINE_BREAKER") v → (p : Shape) → v ≡ Some (value.Pattern p) →
    IsSound (tree p.rows)
chosen_sound ts zs es entries meta sourcetype None read is p e = absurd (f e)
  where
    f : None ≡ Some (value.Pattern p) → ⊥
    f h = cc
chosen_sound ts zs es entries meta sourcetype (Some w) read is p e =
    among ts zs es entries is.stanza (codes "LINE_BREAKER") p read (is.has ∙ e)

pub breaker_sound : (ts zs es : List MergedEntry) (entries : List PropsEntry) (meta : ChannelMeta) (s : Settings) →
    AreRead ts zs es entries → AreSettings entries meta s → IsSound (tree s.breaker.rows)
breaker_sound ts zs es entries meta s read is =
    of_breaker (is.set (codes "LINE_BREAKER")) s.breaker
    (chosen_sound ts zs es entries meta s.sourcetype (is.set (codes "LINE_BREAKER")) read (is.chosen (codes "LINE_BREAKER"))) is.breaker
