-- How the entries of props.conf are read, and which fault is the first.
use Rattle.std.specs.Prelude.{◌≡◌, List, [], ◌∷◌, Some, None, slice_get, take, length}
use Rattle.std.specs.Option.{option_map}
use Rattle.ix_conf.specs.declared.layers.MergedEntry.{MergedEntry}
use Rattle.ix_conf_values.specs.Formats.{format}
use Rattle.ix_props.specs.Kinds.{entry_kind}
use Rattle.ix_props.specs.Names.{names}
use Rattle.ix_props.specs.Lists.{IsTransformList, RefusesNames}
use Rattle.ix_props.specs.Values.{IsBad, source_pattern, host_pattern, IsStanza, IsNoStanza, RefusesStanza, IsPattern, RefusesPattern}
use Rattle.ix_props.specs.Values.{IsBreaker, RefusesBreaker, IsChange, RefusesChange, IsZoneNamed, RefusesZoneName, name, plain_value}
use Rattle.ix_props.specs.declared.kinds.Kind.{Kind}
use Rattle.ix_props.specs.declared.kinds.Kind.TheVariants as kind
use Rattle.ix_props.specs.declared.values.Value.{Value}
use Rattle.ix_props.specs.declared.values.Value.TheVariants as value
use Rattle.ix_props.specs.declared.faults.SettingFault.{SettingFault}
use Rattle.ix_props.specs.declared.faults.SettingFault.TheVariants as fault
use Rattle.ix_props.specs.declared.props.PropsEntry.{PropsEntry}

-- what an entry is read as, by its kind
abbrev pub IsOfKind : List MergedEntry → List MergedEntry → Kind → MergedEntry → Value → Type 0
IsOfKind transforms zones kind.Unread e v = v ≡ value.Nothing
IsOfKind transforms zones kind.Stanza e v = IsStanza (source_pattern e) (host_pattern e) v
IsOfKind transforms zones kind.Breaker e v = IsBreaker e.value v
IsOfKind transforms zones kind.Pattern e v = IsPattern e.value v
IsOfKind transforms zones kind.Boolean e v = plain_value kind.Boolean e.value ≡ Some v
IsOfKind transforms zones (kind.Count least most) e v = plain_value (kind.Count least most) e.value ≡ Some v
IsOfKind transforms zones kind.Lookahead e v = plain_value kind.Lookahead e.value ≡ Some v
IsOfKind transforms zones kind.Priority e v = plain_value kind.Priority e.value ≡ Some v
IsOfKind transforms zones kind.Format e v = option_map value.Format (format e.value) ≡ Some v
IsOfKind transforms zones kind.Zone e v = IsZoneNamed zones e.value v
IsOfKind transforms zones kind.Change e v = IsChange e.value v
IsOfKind transforms zones kind.Transforms e v = IsTransformList transforms e.value v
IsOfKind transforms zones kind.Name e v = option_map value.Name (name e.value) ≡ Some v

-- why an entry is refused, by its kind
abbrev pub RefusesKind : List MergedEntry → List MergedEntry → Kind → MergedEntry → SettingFault → Type 0
RefusesKind transforms zones kind.Unread e why = ⊥
RefusesKind transforms zones kind.Stanza e why = RefusesStanza e (IsNoStanza (source_pattern e) (host_pattern e)) why
RefusesKind transforms zones kind.Breaker e why = RefusesBreaker e why
RefusesKind transforms zones kind.Pattern e why = RefusesPattern e why
RefusesKind transforms zones kind.Boolean e why = IsBad e (plain_value kind.Boolean e.value ≡ None) why
RefusesKind transforms zones (kind.Count least most) e why = IsBad e (plain_value (kind.Count least most) e.value ≡ None) why
RefusesKind transforms zones kind.Lookahead e why = IsBad e (plain_value kind.Lookahead e.value ≡ None) why
RefusesKind transforms zones kind.Priority e why = IsBad e (plain_value kind.Priority e.value ≡ None) why
RefusesKind transforms zones kind.Format e why = IsBad e (format e.value ≡ None) why
RefusesKind transforms zones kind.Zone e why = RefusesZoneName zones e why
RefusesKind transforms zones kind.Change e why = RefusesChange e why
RefusesKind transforms zones kind.Transforms e why = RefusesNames transforms e (names e.value) why
RefusesKind transforms zones kind.Name e why = IsBad e (name e.value ≡ None) why

-- an entry was read
pub record IsRead (transforms zones : List MergedEntry) (e : MergedEntry) (entry : PropsEntry) : Type 0 where
  pub stanza : entry.stanza ≡ e.stanza
  pub key : entry.key ≡ e.key
  pub value : IsOfKind transforms zones (entry_kind e) e entry.value

-- each entry was read, one after the other
abbrev pub AreRead : List MergedEntry → List MergedEntry → List MergedEntry → List PropsEntry → Type 0
AreRead transforms zones [] [] = Unit {0}
AreRead transforms zones [] (entry ∷ entries) = ⊥
AreRead transforms zones (e ∷ es) [] = ⊥
AreRead transforms zones (e ∷ es) (entry ∷ entries) = IsRead transforms zones e entry × AreRead transforms zones es entries

-- the first entry that is refused, behind such as were read; want of memory may be answered at any
-- time
pub data RefusesProps (transforms zones es : List MergedEntry) (why : SettingFault) : Type 0 where
  no_memory : why ≡ fault.NoMemory → RefusesProps transforms zones es why
  first : (e : MergedEntry) (before : List PropsEntry) → slice_get es (length before) ≡ Some e →
      AreRead transforms zones (take (length before) es) before → RefusesKind transforms zones (entry_kind e) e why →
      RefusesProps transforms zones es why
