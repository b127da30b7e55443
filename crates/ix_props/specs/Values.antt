-- What the entries of props.conf are read as, and why one is refused.
use Rattle.std.specs.Prelude.{◌≡◌, ◌&&◌, ◌<◌, if◌then◌else◌, nat_le, false, true, neg_ℤ, pos, Bool, ℕ, List, Option, Some, None, codes}
use Rattle.std.specs.Prelude.{length}
use Rattle.std.specs.Option.{option_map}
use Rattle.ix_pattern.specs.Rows.{Shape, tree}
use Rattle.ix_pattern.specs.Piece.{least_length}
use Rattle.ix_pattern.specs.Syntax.{Syntax}
use Rattle.ix_pattern.specs.Reads.{HasNoGroup, MayMatchEmpty}
use Rattle.ix_pattern.specs.declared.faults.BreakFault.{BreakFault}
use Rattle.ix_pattern.specs.declared.faults.BreakFault.TheVariants as breaks
use Rattle.ix_conf.specs.Names.{NameRule, tokens, are_pattern}
use Rattle.ix_conf.specs.declared.layers.MergedEntry.{MergedEntry}
use Rattle.ix_conf_values.specs.Patterns.{ReadsAs, HasFault, Refuses}
use Rattle.ix_conf_values.specs.Plain.{boolean, count_in, number_in}
use Rattle.ix_conf_values.specs.Seds.{form, IsSedOf, PatternHasFault, IsApplicable}
use Rattle.ix_props.specs.Zones.{rule_of, IsZone, IsBadRule}
use Rattle.ix_props.specs.Kinds.{behind}
use Rattle.ix_props.specs.declared.kinds.Kind.{Kind}
use Rattle.ix_props.specs.declared.kinds.Kind.TheVariants as kind
use Rattle.ix_props.specs.declared.values.Value.{Value}
use Rattle.ix_props.specs.declared.values.Value.TheVariants as value
use Rattle.ix_props.specs.declared.faults.SettingFault.{SettingFault}
use Rattle.ix_props.specs.declared.faults.SettingFault.TheVariants as fault

-- an entry is refused as a bad value, for this reason; want of memory may be answered at any time
abbrev pub IsBad : MergedEntry → Type 0 → SettingFault → Type 0
IsBad e why (fault.BadValue stanza key) = (stanza ≡ e.stanza) × (key ≡ e.key) × why
IsBad e why fault.NoMemory = Unit {0}
IsBad e why other = ⊥

-- a pattern for names was read of a text
abbrev pub IsNamePattern : List ℕ → Bool → NameRule → Type 0
IsNamePattern text fold rule = (rule ≡ record { tokens = tokens text; fold = fold }) × (are_pattern (tokens text) ≡ true)

abbrev pub source_pattern : MergedEntry → Option (List ℕ)
source_pattern e = behind (codes "source::") e.stanza

abbrev pub host_pattern : MergedEntry → Option (List ℕ)
host_pattern e = behind (codes "host::") e.stanza

-- the pattern of a source's stanza, or else of a host's, whose letters fit in either case
abbrev pub IsStanza : Option (List ℕ) → Option (List ℕ) → Value → Type 0
IsStanza (Some text) host (value.Source rule) = IsNamePattern text false rule
IsStanza (Some text) host other = ⊥
IsStanza None (Some text) (value.Host rule) = IsNamePattern text true rule
IsStanza None (Some text) other = ⊥
IsStanza None None v = v ≡ value.Nothing

abbrev pub IsNoStanza : Option (List ℕ) → Option (List ℕ) → Type 0
IsNoStanza (Some text) host = are_pattern (tokens text) ≡ false
IsNoStanza None (Some text) = are_pattern (tokens text) ≡ false
IsNoStanza None None = ⊥

abbrev pub RefusesStanza : MergedEntry → Type 0 → SettingFault → Type 0
RefusesStanza e why (fault.BadStanzaPattern stanza) = (stanza ≡ e.stanza) × why
RefusesStanza e why fault.NoMemory = Unit {0}
RefusesStanza e why other = ⊥

-- patterns
abbrev pub IsPattern : List ℕ → Value → Type 0
IsPattern text (value.Pattern shape) = ReadsAs text shape
IsPattern text other = ⊥

abbrev pub RefusesPattern : MergedEntry → SettingFault → Type 0
RefusesPattern e (fault.BadPattern stanza key (breaks.Pattern fault)) = (stanza ≡ e.stanza) × (key ≡ e.key) × HasFault e.value fault
RefusesPattern e fault.NoMemory = Unit {0}
RefusesPattern e other = ⊥

-- a pattern for breaks has a capturing group and takes at least one byte
pub record IsBreakerShape (text : List ℕ) (shape : Shape) : Type 0 where
  pub is_read : ReadsAs text shape
  pub groups : 0 < shape.groups
  pub takes : 0 < least_length (tree shape.rows)

abbrev pub IsBreaker : List ℕ → Value → Type 0
IsBreaker text (value.Pattern shape) = IsBreakerShape text shape
IsBreaker text other = ⊥

abbrev pub HasBreakFault : List ℕ → BreakFault → Type 0
HasBreakFault text (breaks.Pattern fault) = HasFault text fault
HasBreakFault text breaks.NoGroup = (syntax : Syntax) × HasNoGroup text syntax
HasBreakFault text breaks.MatchesEmpty = (syntax : Syntax) × MayMatchEmpty text syntax

-- want of memory may be answered at any time
abbrev pub RefusesBreaks : List ℕ → BreakFault → Type 0
RefusesBreaks text (breaks.Pattern fault) = Refuses text fault
RefusesBreaks text breaks.NoGroup = HasBreakFault text breaks.NoGroup
RefusesBreaks text breaks.MatchesEmpty = HasBreakFault text breaks.MatchesEmpty

abbrev pub RefusesBreaker : MergedEntry → SettingFault → Type 0
RefusesBreaker e (fault.BadPattern stanza key fault) = (stanza ≡ e.stanza) × (key ≡ e.key) × HasBreakFault e.value fault
RefusesBreaker e fault.NoMemory = Unit {0}
RefusesBreaker e other = ⊥

-- changes of a raw text
abbrev pub IsChange : List ℕ → Value → Type 0
IsChange text (value.Change sed) = IsSedOf (form text) sed × IsApplicable sed
IsChange text other = ⊥

abbrev pub RefusesChange : MergedEntry → SettingFault → Type 0
RefusesChange e (fault.BadValue stanza key) = (stanza ≡ e.stanza) × (key ≡ e.key) × (form e.value ≡ None)
RefusesChange e (fault.BadPattern stanza key (breaks.Pattern fault)) = (stanza ≡ e.stanza) × (key ≡ e.key)
    × PatternHasFault (form e.value) fault
RefusesChange e fault.NoMemory = Unit {0}
RefusesChange e other = ⊥

-- zones, by their names
abbrev pub IsZoneNamed : List MergedEntry → List ℕ → Value → Type 0
IsZoneNamed zones name (value.Zone zone) = IsZone (rule_of zones name) zone
IsZoneNamed zones name other = ⊥

abbrev pub RefusesZoneName : List MergedEntry → MergedEntry → SettingFault → Type 0
RefusesZoneName zones e (fault.UnknownZone stanza name) = (stanza ≡ e.stanza) × (name ≡ e.value) × (rule_of zones e.value ≡ None)
RefusesZoneName zones e (fault.BadValue stanza key) = (stanza ≡ e.value) × (key ≡ codes "RULE") × IsBadRule (rule_of zones e.value)
RefusesZoneName zones e fault.NoMemory = Unit {0}
RefusesZoneName zones e other = ⊥

-- the name of a source type
abbrev pub name : List ℕ → Option (List ℕ)
name text = if nat_le 1 (length text) && nat_le (length text) 1024 then Some text else None

-- the values that are read without taking memory
abbrev pub plain_value : Kind → List ℕ → Option Value
plain_value kind.Boolean text = option_map value.Boolean (boolean text)
plain_value (kind.Count least most) text = option_map value.Count (count_in least most text)
plain_value kind.Lookahead text = option_map value.Number (number_in (neg_ℤ (pos 1)) (pos 1_048_576) text)
plain_value kind.Priority text = option_map value.Number (number_in (neg_ℤ (pos 1_000_000)) (pos 1_000_000) text)
plain_value other text = None
