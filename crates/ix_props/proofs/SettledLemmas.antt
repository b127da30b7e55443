-- The settings that the nearest entries give are those of the channel.
use Rattle.std.proofs.Common.{◌≡◌, ℕ, List, Some, None, sym, ap, ◌∙◌, subst, codes}
use Rattle.std.specs.Option.{option_map}
use Rattle.ix_base.specs.declared.events.ChannelMeta.{ChannelMeta}
use Rattle.ix_props.specs.Choice.{HoldsForSource, Holds, IsChosen}
use Rattle.ix_props.specs.Ranking.{Ranks, AreRanks, rank_for, nearest, value_of, set_in, AreNearest, classes_in, AreSet}
use Rattle.ix_props.specs.Settings.{name_or, IsSourceType, origin_of, AreSettings}
use Rattle.ix_props.specs.declared.props.PropsEntry.{PropsEntry}
use Rattle.ix_props.specs.declared.settings.Settings.{Settings}
use Rattle.ix_props.proofs.ClassLemmas.{classes}
use Rattle.ix_props.proofs.NearestLemmas.{chosen_by}
use Rattle.ix_props.proofs.RankLemmas.{source_ranks, all_ranks}

-- without a source type that is stated
pub type_of_source : (entries : List PropsEntry) (source host : List ℕ) (f : Ranks) (list : List PropsEntry) (name : List ℕ) →
    AreRanks entries entries source host f →
    AreNearest (rank_for f None) entries list → name ≡ name_or (codes "unknown") (set_in list (codes "sourcetype")) →
    IsSourceType entries None source name
type_of_source entries source host f list name ranks near is =
    let key : List ℕ = codes "sourcetype" in (
      option_map value_of (nearest (rank_for f None) key entries),
      chosen_by entries (HoldsForSource entries source) (rank_for f None) key (source_ranks entries source host f ranks),
      is ∙ ap (λ v. name_or (codes "unknown") v) (near.set key),
    )

pub settled : (entries : List PropsEntry) (meta : ChannelMeta) (sourcetype : List ℕ) (f : Ranks) (list : List PropsEntry) (s : Settings) →
    AreRanks entries entries meta.source meta.host f → IsSourceType entries meta.sourcetype meta.source sourcetype →
    AreNearest (rank_for f (Some sourcetype)) entries list → AreSet list sourcetype s → AreSettings entries meta s
settled entries meta sourcetype f list s ranks is_type near set =
    let same : sourcetype ≡ s.sourcetype = sym set.sourcetype_is in
    record {
      sourcetype = subst (λ t. IsSourceType entries meta.sourcetype meta.source t) same is_type;
      set = set_in list;
      chosen = λ key.
          subst (λ t. IsChosen entries (Holds entries (origin_of meta t)) key (set_in list key)) same
          (subst (λ v. IsChosen entries (Holds entries (origin_of meta sourcetype)) key v) (sym (near.set key))
          (chosen_by entries (Holds entries (origin_of meta sourcetype)) (rank_for f (Some sourcetype)) key
          (all_ranks entries (origin_of meta sourcetype) f ranks)));
      breaker = set.breaker;
      truncate = set.truncate;
      merge = set.merge;
      time = set.time;
      seds = (classes_in (codes "SEDCMD-") list, classes (codes "SEDCMD-") list near.in_order, set.seds);
      transforms = (classes_in (codes "TRANSFORMS-") list, classes (codes "TRANSFORMS-") list near.in_order, set.transforms);
    }
