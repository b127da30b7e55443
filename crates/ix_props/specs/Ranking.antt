-- How the stanzas that hold for a channel are ranked, and the nearest value of each key is found.
use Rattle.std.specs.Prelude.{◌≡◌, ◌&&◌, ◌⊎◌, if◌then◌else◌, ℕ, ℤ, pos, Bool, true, false, List, [], ◌∷◌, Option, Some, None, int_le}
use Rattle.std.specs.Prelude.{bytes_eq, codes, map}
use Rattle.std.specs.Option.{option_map, option_or, unwrap_or}
use Rattle.std.specs.List.{AllByRecursion}
use Rattle.std.specs.BTreeMap.{BTreeMap, get_by}
use Rattle.std.specs.declared.cmp.Ordering.TheVariants.{Less}
use Rattle.std.specs.Ordering.{is_gt, nat_cmp}
use Rattle.std.specs.Cmp.Lexicographic.{slice_cmp}
use denote.Ref.{Bor}
use Rattle.ix_conf.specs.Names.{NameRule, FitsRule}
use Rattle.ix_props.specs.Choice.{FitsStanza, stated_priority, IsThere, names_source_type, order}
use Rattle.ix_props.specs.Kinds.{behind, begins_with}
use Rattle.ix_props.specs.Settings.{Class, IsBreakerOf, count_or, AreMergeSettings, AreTimeSettings, changes, chain}
use Rattle.ix_props.specs.declared.props.PropsEntry.{PropsEntry}
use Rattle.ix_props.specs.declared.choosing.Candidate.{Candidate}
use Rattle.ix_props.specs.declared.ranks.Nearness.{Nearness}
use Rattle.ix_props.specs.declared.ranks.Nearness.TheVariants.{Source, Host, SourceType, Everything}
use Rattle.ix_props.specs.declared.ranks.Rank.{Rank}
use Rattle.ix_props.specs.declared.settings.Settings.{Settings}
use Rattle.ix_props.specs.declared.values.Value.{Value}
use Rattle.ix_props.specs.declared.values.Value.TheVariants as value

-- what a map has at a name
abbrev pub found : {X : Type 0} → BTreeMap (Bor (List ℕ)) X → List ℕ → Option X
found m name = get_by (λ k. slice_cmp nat_cmp name k.now) m

-- ranks of stanzas, by their names
abbrev pub Ranks : Type 0
Ranks = List ℕ → Option Rank

-- a name fits a pattern, and the rank is that of its stanza
abbrev pub IsRankIf : Nearness → ℤ → NameRule → List ℕ → Option Rank → Type 0
IsRankIf nearness priority rule name None = FitsRule rule name → ⊥
IsRankIf nearness priority rule name (Some rank) = FitsRule rule name × (rank ≡ record { nearness = nearness; priority = priority })

-- the pattern of a stanza fits the source or the host
abbrev pub FitsEither : Option ℤ → List ℕ → List ℕ → List ℕ → Rank → Type 0
FitsEither stated source host stanza rank =
    FitsStanza stated Source (codes "source::") false source stanza rank ⊎ FitsStanza stated Host (codes "host::") true host stanza rank

abbrev pub IsRankBy : Option ℤ → List ℕ → List ℕ → List ℕ → Option Rank → Type 0
IsRankBy stated source host stanza None = (rank : Rank) → FitsEither stated source host stanza rank → ⊥
IsRankBy stated source host stanza (Some rank) = FitsEither stated source host stanza rank

-- what stands behind a prefix that is there
abbrev pub behind_or : List ℕ → List ℕ → List ℕ
behind_or prefix stanza = unwrap_or (behind prefix stanza) stanza

-- the stanzas of `part` whose patterns fit, with their ranks
pub record AreRanks (part entries : List PropsEntry) (source host : List ℕ) (ranks : Ranks) : Type 0 where
  pub sound : (stanza : List ℕ) (rank : Rank) → ranks stanza ≡ Some rank → IsThere part stanza
      × FitsEither (stated_priority entries stanza) source host stanza rank
  pub whole : (stanza : List ℕ) (rank : Rank) → IsThere part stanza → FitsEither (stated_priority entries stanza) source host stanza rank →
      ranks stanza ≡ Some rank

-- the rank of a stanza without a pattern
abbrev pub plain_rank : List ℕ → List ℕ → Option Rank
plain_rank sourcetype stanza =
    if bytes_eq stanza sourcetype && names_source_type stanza then Some (record { nearness = SourceType; priority = pos 0 })
    else if bytes_eq stanza (codes "default") then Some (record { nearness = Everything; priority = pos 0 })
    else None

abbrev pub if_source : Nearness → Rank → Option Rank
if_source Source rank = Some rank
if_source other rank = None

abbrev pub for_source : Option Rank → Option Rank
for_source None = None
for_source (Some rank) = if_source rank.nearness rank

-- all stanzas that hold for a source type; without one those for sources alone
abbrev pub rank_for : Ranks → Option (List ℕ) → Ranks
rank_for ranks None stanza = for_source (ranks stanza)
rank_for ranks (Some sourcetype) stanza = option_or (ranks stanza) (plain_rank sourcetype stanza)

-- an entry of a stanza that holds
abbrev pub Ranked : Type 0
Ranked = PropsEntry × Rank

abbrev pub lent_candidate : Candidate → Ranked
lent_candidate c = (c.entry.now, c.rank)

abbrev pub place : Ranked → List ℕ × Rank
place c = (c.0.stanza, c.1)

abbrev pub at_key : List ℕ → Ranked → Option Ranked
at_key key c = if bytes_eq key c.0.key then Some c else None

abbrev pub ranked : Ranks → List ℕ → PropsEntry → Option Ranked
ranked ranks key e = if bytes_eq key e.key then option_map (λ rank. (e, rank)) (ranks e.stanza) else None

-- the second one is nearer than the first
abbrev pub gives_way : Ranked → Option Ranked → Bool
gives_way c None = false
gives_way c (Some d) = is_gt (order (place c) (place d))

abbrev pub nearer : Option Ranked → Option Ranked → Option Ranked
nearer None d = d
nearer (Some c) d = if gives_way c d then d else Some c

-- the nearest entry of a key, the first one of those that are as near
abbrev pub nearest : Ranks → List ℕ → List PropsEntry → Option Ranked
nearest ranks key [] = None
nearest ranks key (e ∷ es) = nearer (ranked ranks key e) (nearest ranks key es)

abbrev pub value_of : Ranked → Value
value_of c = c.0.value

-- entries, lent
abbrev pub lent : List (Bor PropsEntry) → List PropsEntry
lent entries = map (λ e. e.now) entries

-- the value of a key among entries of different keys
abbrev pub set_in : List PropsEntry → List ℕ → Option Value
set_in [] key = None
set_in (e ∷ es) key = if bytes_eq key e.key then Some e.value else set_in es key

abbrev pub AreInOrder : List PropsEntry → Type 0
AreInOrder [] = Unit {0}
AreInOrder (e ∷ es) = AllByRecursion (λ d. slice_cmp nat_cmp e.key d.key ≡ Less) es × AreInOrder es

-- the nearest entry of each key, in the order of the keys
pub record AreNearest (ranks : Ranks) (entries : List PropsEntry) (list : List PropsEntry) : Type 0 where
  pub in_order : AreInOrder list
  pub set : (key : List ℕ) → set_in list key ≡ option_map value_of (nearest ranks key entries)

-- those whose keys begin so
abbrev pub classes_in : List ℕ → List PropsEntry → List Class
classes_in prefix [] = []
classes_in prefix (e ∷ es) = if begins_with prefix e.key then (e.key, e.value) ∷ classes_in prefix es else classes_in prefix es

-- a number, where a value is one, is in the range of lookaheads
abbrev pub IsSmall : Option Value → Type 0
IsSmall (Some (value.Number n)) = int_le n (pos 1_048_576) ≡ true
IsSmall other = Unit {0}

-- the settings that are set by these entries
pub record AreSet (entries : List PropsEntry) (sourcetype : List ℕ) (s : Settings) : Type 0 where
  pub sourcetype_is : s.sourcetype ≡ sourcetype
  pub breaker : IsBreakerOf (set_in entries (codes "LINE_BREAKER")) s.breaker
  pub truncate : s.truncate ≡ count_or 10_000 (set_in entries (codes "TRUNCATE"))
  pub merge : AreMergeSettings (set_in entries) s.merge
  pub time : AreTimeSettings (set_in entries) s.time
  pub seds : s.seds ≡ changes (classes_in (codes "SEDCMD-") entries)
  pub transforms : s.transforms ≡ chain (classes_in (codes "TRANSFORMS-") entries)
