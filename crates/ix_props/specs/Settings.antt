-- The settings of a channel. From Splunk's Admin Manual, props.conf.
use Rattle.std.specs.Prelude.{◌≡◌, ◌≤◌, ◌<◌, if◌then◌else◌, int_le, unsigned_abs, ℕ, ℤ, pos, Bool, true, List, [], ◌∷◌, ◌++◌, Option, Some}
use Rattle.std.specs.Prelude.{None, IfSome, codes}
use Rattle.std.specs.List.{AllByRecursion, Contains}
use Rattle.std.specs.declared.cmp.Ordering.TheVariants.{Less}
use Rattle.std.specs.Ordering.{nat_cmp}
use Rattle.std.specs.Cmp.Lexicographic.{slice_cmp}
use Rattle.ix_base.specs.declared.events.ChannelMeta.{ChannelMeta}
use Rattle.ix_pattern.specs.Rows.{Shape, tree}
use Rattle.ix_pattern.specs.Piece.{least_length}
use Rattle.ix_conf_values.specs.Seds.{IsApplicable}
use Rattle.ix_conf_values.specs.Transforms.{HasDestination}
use Rattle.ix_conf_values.specs.declared.formats.Directive.{Directive}
use Rattle.ix_conf_values.specs.declared.seds.Sed.{Sed}
use Rattle.ix_conf_values.specs.declared.transforms.Transform.{Transform}
use Rattle.ix_props.specs.Choice.{Origin, HoldsForSource, Holds, IsChosen}
use Rattle.ix_props.specs.Kinds.{begins_with}
use Rattle.ix_props.specs.Values.{IsBreakerShape}
use Rattle.ix_props.specs.declared.props.PropsEntry.{PropsEntry}
use Rattle.ix_props.specs.declared.settings.MergeSettings.{MergeSettings}
use Rattle.ix_props.specs.declared.settings.Settings.{Settings}
use Rattle.ix_props.specs.declared.settings.TimeSettings.{TimeSettings}
use Rattle.ix_props.specs.declared.values.Value.{Value}
use Rattle.ix_props.specs.declared.values.Value.TheVariants as value

-- what a chosen value comes to; an empty one is none, and each has its default
abbrev pub boolean_or : Bool → Option Value → Bool
boolean_or default (Some (value.Boolean b)) = b
boolean_or default other = default

abbrev pub count_or : ℕ → Option Value → ℕ
count_or default (Some (value.Count n)) = n
count_or default other = default

abbrev pub name_or : List ℕ → Option Value → List ℕ
name_or default (Some (value.Name name)) = name
name_or default other = default

abbrev pub zone_or : List ℕ → Option Value → List ℕ
zone_or default (Some (value.Zone zone)) = zone
zone_or default other = default

abbrev pub pattern_of : Option Value → Option Shape
pattern_of (Some (value.Pattern shape)) = Some shape
pattern_of other = None

abbrev pub format_of : Option Value → Option (List Directive)
format_of (Some (value.Format format)) = Some format
format_of other = None

-- from 1 byte on; 0 and -1 stand for no bound
abbrev pub bytes_of : ℤ → Option ℕ
bytes_of n = if int_le n (pos 0) then None else Some (unsigned_abs n)

abbrev pub lookahead_of : Option Value → Option ℕ
lookahead_of (Some (value.Number n)) = bytes_of n
lookahead_of other = Some 128

-- a pattern for breaks; without one a break is a run of carriage returns and newlines
abbrev pub IsBreakerOf : Option Value → Shape → Type 0
IsBreakerOf (Some (value.Pattern shape)) breaker = breaker ≡ shape
IsBreakerOf other breaker = IsBreakerShape (codes "([\\r\\n]+)") breaker

-- what the keys of a channel are set to
abbrev pub Chosen : Type 0
Chosen = List ℕ → Option Value

pub record AreMergeSettings (set : Chosen) (m : MergeSettings) : Type 0 where
  pub on : m.on ≡ boolean_or true (set (codes "SHOULD_LINEMERGE"))
  pub before_date : m.before_date ≡ boolean_or true (set (codes "BREAK_ONLY_BEFORE_DATE"))
  pub before : m.before ≡ pattern_of (set (codes "BREAK_ONLY_BEFORE"))
  pub break_after : m.break_after ≡ pattern_of (set (codes "MUST_BREAK_AFTER"))
  pub hold_after : m.hold_after ≡ pattern_of (set (codes "MUST_NOT_BREAK_AFTER"))
  pub veto : m.veto ≡ pattern_of (set (codes "MUST_NOT_BREAK_BEFORE"))
  pub max_lines : m.max_lines ≡ count_or 256 (set (codes "MAX_EVENTS"))

pub record AreTimeSettings (set : Chosen) (t : TimeSettings) : Type 0 where
  pub prefix : t.prefix ≡ pattern_of (set (codes "TIME_PREFIX"))
  pub format : t.format ≡ format_of (set (codes "TIME_FORMAT"))
  pub lookahead : t.lookahead ≡ lookahead_of (set (codes "MAX_TIMESTAMP_LOOKAHEAD"))
  pub zone : t.zone ≡ zone_or (codes "UTC0") (set (codes "TZ"))
  pub days_ago : t.days_ago ≡ count_or 2000 (set (codes "MAX_DAYS_AGO"))
  pub days_hence : t.days_hence ≡ count_or 2 (set (codes "MAX_DAYS_HENCE"))

-- a class has the key that it is set by, and the value of that
abbrev pub Class : Type 0
Class = List ℕ × Value

abbrev pub AreRising : List Class → Type 0
AreRising [] = Unit {0}
AreRising (c ∷ cs) = AllByRecursion (λ d. slice_cmp nat_cmp c.0 d.0 ≡ Less) cs × AreRising cs

-- the classes whose keys begin so are those that are set, each once, in the order of the bytes of
-- their keys
pub record AreClasses (set : Chosen) (prefix : List ℕ) (classes : List Class) : Type 0 where
  pub rising : AreRising classes
  pub each : AllByRecursion (λ c. (begins_with prefix c.0 ≡ true) × (set c.0 ≡ Some c.1)) classes
  pub all : (key : List ℕ) (v : Value) → begins_with prefix key ≡ true → set key ≡ Some v → Contains classes (key, v)

-- what a class does; an empty value does nothing
abbrev pub change_of : Value → List Sed
change_of (value.Change sed) = sed ∷ []
change_of other = []

abbrev pub changes : List Class → List Sed
changes [] = []
changes (c ∷ cs) = change_of c.1 ++ changes cs

abbrev pub transforms_of : Value → List Transform
transforms_of (value.Transforms ts) = ts
transforms_of other = []

abbrev pub chain : List Class → List Transform
chain [] = []
chain (c ∷ cs) = transforms_of c.1 ++ chain cs

-- the source type that is stated, or else that of the stanzas for the source, or else `unknown`
abbrev pub IsSourceType : List PropsEntry → Option (List ℕ) → List ℕ → List ℕ → Type 0
IsSourceType entries (Some stated) source sourcetype = sourcetype ≡ stated
IsSourceType entries None source sourcetype =
    (found : Option Value) × IsChosen entries (HoldsForSource entries source) (codes "sourcetype") found
    × (sourcetype ≡ name_or (codes "unknown") found)

-- where the bytes of a channel of this source type come from
abbrev pub origin_of : ChannelMeta → List ℕ → Origin
origin_of meta sourcetype = record { source = meta.source; host = meta.host; sourcetype = sourcetype }

-- the settings of a channel: each is the value that is chosen for it, or else its default
pub record AreSettings (entries : List PropsEntry) (meta : ChannelMeta) (s : Settings) : Type 0 where
  pub sourcetype : IsSourceType entries meta.sourcetype meta.source s.sourcetype
  pub set : Chosen
  pub chosen : (key : List ℕ) → IsChosen entries (Holds entries (origin_of meta s.sourcetype)) key (set key)
  pub breaker : IsBreakerOf (set (codes "LINE_BREAKER")) s.breaker
  pub truncate : s.truncate ≡ count_or 10_000 (set (codes "TRUNCATE"))
  pub merge : AreMergeSettings set s.merge
  pub time : AreTimeSettings set s.time
  pub seds : (classes : List Class) × AreClasses set (codes "SEDCMD-") classes × (s.seds ≡ changes classes)
  pub transforms : (classes : List Class) × AreClasses set (codes "TRANSFORMS-") classes × (s.transforms ≡ chain classes)

-- what cutting, merging, dating and changing ask of settings
pub record AreUsable (s : Settings) : Type 0 where
  pub groups : 0 < s.breaker.groups
  pub takes : 0 < least_length (tree s.breaker.rows)
  pub lines : 1 ≤ s.merge.max_lines
  pub few_lines : s.merge.max_lines ≤ 1_000_000
  pub ago : s.time.days_ago ≤ 10_951
  pub hence : s.time.days_hence ≤ 10_950
  pub lookahead : IfSome s.time.lookahead (λ n. (1 ≤ n) × (n ≤ 1_048_576))
  pub seds : AllByRecursion IsApplicable s.seds
  pub transforms : AllByRecursion HasDestination s.transforms
