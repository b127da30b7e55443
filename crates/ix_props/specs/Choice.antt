-- Which stanza's value holds for a channel. From Splunk's Admin Manual, props.conf, and
-- "Configuration file precedence".
use Rattle.std.specs.Prelude.{◌≡◌, ◌≢◌, ◌==◌, ◌&&◌, ◌||◌, not, if◌then◌else◌, ℕ, ℤ, pos, Bool, true, false, List, [], ◌∷◌, Option, Some}
use Rattle.std.specs.Prelude.{None, IsSome, bytes_eq, codes}
use Rattle.std.specs.Option.{option_and_then}
use Rattle.std.specs.declared.cmp.Ordering.{Ordering}
use Rattle.std.specs.declared.cmp.Ordering.TheVariants.{Greater}
use Rattle.std.specs.Ordering.{ordering_then, nat_cmp, int_cmp}
use Rattle.std.specs.Cmp.Lexicographic.{slice_cmp}
use Rattle.ix_conf.specs.Names.{tokens, FitsRule}
use Rattle.ix_props.specs.Kinds.{behind, begins_with, is_ignored}
use Rattle.ix_props.specs.declared.props.PropsEntry.{PropsEntry}
use Rattle.ix_props.specs.declared.ranks.Nearness.{Nearness}
use Rattle.ix_props.specs.declared.ranks.Nearness.TheVariants.{Source, Host, SourceType, Everything}
use Rattle.ix_props.specs.declared.ranks.Rank.{Rank}
use Rattle.ix_props.specs.declared.values.Value.{Value}
use Rattle.ix_props.specs.declared.values.Value.TheVariants as value

-- where the bytes of a channel come from, and their source type
pub record Origin : Type 0 where
  pub source : List ℕ
  pub host : List ℕ
  pub sourcetype : List ℕ

-- the value of a key in a stanza alone; that of the empty key is there where the stanza is
abbrev pub value_in : List ℕ → List ℕ → List PropsEntry → Option Value
value_in stanza key [] = None
value_in stanza key (e ∷ es) = if bytes_eq stanza e.stanza && bytes_eq key e.key then Some e.value else value_in stanza key es

-- one of `*`, `|`, `(` and `)`
abbrev pub is_wild : ℕ → Bool
is_wild b = (b == 42) || ((b == 124) || ((b == 40) || (b == 41)))

-- some such byte stands in a pattern, or `...` does
abbrev pub has_wildcard : List ℕ → Bool
has_wildcard [] = false
has_wildcard (b ∷ bs) = (is_wild b || begins_with (codes "...") (b ∷ bs)) || has_wildcard bs

abbrev pub default_priority : List ℕ → ℤ
default_priority text = if has_wildcard text then pos 0 else pos 100

abbrev pub number_of : Value → Option ℤ
number_of (value.Number n) = Some n
number_of other = None

-- a stanza's own priority
abbrev pub stated_priority : List PropsEntry → List ℕ → Option ℤ
stated_priority entries stanza = option_and_then number_of (value_in stanza (codes "priority") entries)

-- or else that of its pattern
abbrev pub priority_or : Option ℤ → List ℕ → ℤ
priority_or None text = default_priority text
priority_or (Some n) text = n

-- a name fits the pattern that stands behind the prefix of a stanza's
pub record FitsStanza (stated : Option ℤ) (nearness : Nearness) (prefix : List ℕ) (fold : Bool) (name stanza : List ℕ) (rank : Rank) : Type
    0 where
  pub text : List ℕ
  pub is_behind : behind prefix stanza ≡ Some text
  pub fits : FitsRule (record { tokens = tokens text; fold = fold }) name
  pub rank_is : rank ≡ record { nearness = nearness; priority = priority_or stated text }

abbrev pub FitsSource : List PropsEntry → List ℕ → List ℕ → Rank → Type 0
FitsSource entries source stanza rank = FitsStanza (stated_priority entries stanza) Source (codes "source::") false source stanza rank

abbrev pub FitsHost : List PropsEntry → List ℕ → List ℕ → Rank → Type 0
FitsHost entries host stanza rank = FitsStanza (stated_priority entries stanza) Host (codes "host::") true host stanza rank

abbrev pub IsThere : List PropsEntry → List ℕ → Type 0
IsThere entries stanza = IsSome (value_in stanza [] entries)

abbrev pub HoldsForSource : List PropsEntry → List ℕ → List ℕ → Rank → Type 0
HoldsForSource entries source stanza rank = IsThere entries stanza × FitsSource entries source stanza rank

-- such a stanza is that of the source type of its name
abbrev pub names_source_type : List ℕ → Bool
names_source_type stanza =
    not (is_ignored stanza) && (not (begins_with (codes "source::") stanza) && not (begins_with (codes "host::") stanza))

-- a stanza holds for a channel, at this rank
pub data Holds (entries : List PropsEntry) (o : Origin) (stanza : List ℕ) (rank : Rank) : Type 0 where
  for_source : HoldsForSource entries o.source stanza rank → Holds entries o stanza rank
  for_host : IsThere entries stanza → FitsHost entries o.host stanza rank → Holds entries o stanza rank
  for_source_type : stanza ≡ o.sourcetype → names_source_type stanza ≡ true → rank ≡ record { nearness = SourceType; priority = pos 0 } →
      Holds entries o stanza rank
  for_everything : stanza ≡ codes "default" → rank ≡ record { nearness = Everything; priority = pos 0 } → Holds entries o stanza rank

-- the nearest stanzas first: those for sources, for hosts, for the source type, and the one for
-- everything
abbrev pub step_of : Nearness → ℕ
step_of Source = 0
step_of Host = 1
step_of SourceType = 2
step_of Everything = 3

-- and among these the greater priority first, and then the lesser name
abbrev pub order : List ℕ × Rank → List ℕ × Rank → Ordering
order a b =
    ordering_then (nat_cmp (step_of a.1.nearness) (step_of b.1.nearness))
    (ordering_then (int_cmp b.1.priority a.1.priority) (slice_cmp nat_cmp a.0 b.0))

-- a stanza that holds has this value, and it is the first of those that hold and have one
pub record IsFirst (entries : List PropsEntry) (H : List ℕ → Rank → Type 0) (key : List ℕ) (v : Value) : Type 0 where
  pub stanza : List ℕ
  pub rank : Rank
  pub holds : H stanza rank
  pub has : value_in stanza key entries ≡ Some v
  pub first : (other : List ℕ) (r : Rank) → H other r → IsSome (value_in other key entries) → order (stanza, rank) (other, r) ≢ Greater

-- the value of a key in the first stanza that holds and has one; none where no stanza that holds
-- has one
abbrev pub IsChosen : List PropsEntry → (List ℕ → Rank → Type 0) → List ℕ → Option Value → Type 0
IsChosen entries H key None = (stanza : List ℕ) (rank : Rank) → H stanza rank → value_in stanza key entries ≡ None
IsChosen entries H key (Some v) = IsFirst entries H key v

-- a key has one value, or none
abbrev pub IsOneChoice : List PropsEntry → (List ℕ → Rank → Type 0) → Type 0
IsOneChoice entries H = (key : List ℕ) (found other : Option Value) → IsChosen entries H key found → IsChosen entries H key other →
    found ≡ other
