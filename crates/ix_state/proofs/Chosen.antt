-- There are settings for every channel, whatever entries were read.
use Rattle.std.proofs.Common.{◌≡◌, ℕ, ℤ, ◌==◌, true, List, [], ◌∷◌, refl, codes, length, bytes_eq}
use Rattle.std.specs.Prelude.{Option, Some, None}
use Rattle.std.specs.Map.{update}
use Rattle.ix_base.specs.declared.events.ChannelMeta.{ChannelMeta}
use Rattle.ix_model.proofs.Named.{by_test}
use Rattle.ix_pattern.specs.Rows.{Shape}
use Rattle.ix_props.specs.Choice.{stated_priority}
use Rattle.ix_props.specs.Ranking.{Ranks, AreRanks, rank_for, set_in, classes_in, AreSet}
use Rattle.ix_props.specs.Settings.{Chosen, boolean_or, count_or, name_or, zone_or, pattern_of, format_of, lookahead_of, IsSourceType}
use Rattle.ix_props.specs.Settings.{changes, chain, AreSettings}
use Rattle.ix_props.specs.declared.props.PropsEntry.{PropsEntry}
use Rattle.ix_props.specs.declared.settings.MergeSettings.{MergeSettings}
use Rattle.ix_props.specs.declared.settings.Settings.{Settings}
use Rattle.ix_props.specs.declared.settings.TimeSettings.{TimeSettings}
use Rattle.ix_props.proofs.RankLemmas.{ranks-start, ranks-other, ranks-put, ranks-left}
use Rattle.ix_props.proofs.SettledLemmas.{type_of_source, settled}
use Rattle.ix_state.specs.Choosers.{SettingsExist}
use Rattle.ix_state.proofs.Breaking.{breaker_exists}
use Rattle.ix_state.proofs.Fitting.{rank_by}
use Rattle.ix_state.proofs.Nearest.{nearest_exist}

-- ---- the stanzas that hold, with their ranks

record HaveRanks (part entries : List PropsEntry) (source host : List ℕ) : Type 0 where
  ranks : Ranks
  are : AreRanks part entries source host ranks

module _ (entries : List PropsEntry) (source host : List ℕ) where
  own_entry : (e : PropsEntry) (part : List PropsEntry) → (length e.key == 0) ≡ true → HaveRanks part entries source host →
      HaveRanks (e ∷ part) entries source host
  own_entry e part t h =
      let stated : Option ℤ = stated_priority entries e.stanza in
      rank_by stated source host e.stanza
      (λ none. record { ranks = h.ranks; are = ranks-left e part entries source host h.ranks stated t refl none h.are })
      (λ rank is. record {
        ranks = update bytes_eq h.ranks e.stanza (Some rank);
        are = ranks-put e part entries source host h.ranks (update bytes_eq h.ranks e.stanza (Some rank)) rank stated e.stanza t refl is
            refl (λ name. refl) h.are;
      })

  have_ranks : (part : List PropsEntry) → HaveRanks part entries source host
  have_ranks [] = record { ranks = λ s. None; are = ranks-start entries source host (λ s. None) (λ s. refl) }
  have_ranks (e ∷ part) =
      let h = have_ranks part in
      by_test (length e.key == 0)
      (λ t. own_entry e part t h)
      (λ t. record { ranks = h.ranks; are = ranks-other e part entries source host h.ranks t h.are })

-- ---- the settings that entries in order give

abbrev merge_of : Chosen → MergeSettings
merge_of set = record {
  on = boolean_or true (set (codes "SHOULD_LINEMERGE"));
  before_date = boolean_or true (set (codes "BREAK_ONLY_BEFORE_DATE"));
  before = pattern_of (set (codes "BREAK_ONLY_BEFORE"));
  break_after = pattern_of (set (codes "MUST_BREAK_AFTER"));
  hold_after = pattern_of (set (codes "MUST_NOT_BREAK_AFTER"));
  veto = pattern_of (set (codes "MUST_NOT_BREAK_BEFORE"));
  max_lines = count_or 256 (set (codes "MAX_EVENTS"));
}

abbrev time_of : Chosen → TimeSettings
time_of set = record {
  prefix = pattern_of (set (codes "TIME_PREFIX"));
  format = format_of (set (codes "TIME_FORMAT"));
  lookahead = lookahead_of (set (codes "MAX_TIMESTAMP_LOOKAHEAD"));
  zone = zone_or (codes "UTC0") (set (codes "TZ"));
  days_ago = count_or 2000 (set (codes "MAX_DAYS_AGO"));
  days_hence = count_or 2 (set (codes "MAX_DAYS_HENCE"));
}

abbrev settings_of : List PropsEntry → List ℕ → Shape → Settings
settings_of list sourcetype breaker = record {
  sourcetype = sourcetype;
  breaker = breaker;
  truncate = count_or 10_000 (set_in list (codes "TRUNCATE"));
  merge = merge_of (set_in list);
  time = time_of (set_in list);
  seds = changes (classes_in (codes "SEDCMD-") list);
  transforms = chain (classes_in (codes "TRANSFORMS-") list);
}

set_by : (list : List PropsEntry) (sourcetype : List ℕ) → (s : Settings) × AreSet list sourcetype s
set_by list sourcetype =
    let found = breaker_exists (set_in list (codes "LINE_BREAKER")) in (
      settings_of list sourcetype found.0,
      record {
        sourcetype_is = refl;
        breaker = found.1;
        truncate = refl;
        merge = record {
          on = refl;
          before_date = refl;
          before = refl;
          break_after = refl;
          hold_after = refl;
          veto = refl;
          max_lines = refl;
        };
        time = record { prefix = refl; format = refl; lookahead = refl; zone = refl; days_ago = refl; days_hence = refl };
        seds = refl;
        transforms = refl;
      },
    )

-- ---- the settings of a channel

type_by : (entries : List PropsEntry) (source host : List ℕ) (ranks : Ranks) → AreRanks entries entries source host ranks →
    (stated : Option (List ℕ)) →
    (name : List ℕ) × IsSourceType entries stated source name
type_by entries source host ranks are (Some stated) = (stated, refl)
type_by entries source host ranks are None =
    let near = nearest_exist (rank_for ranks None) entries in
    let name : List ℕ = name_or (codes "unknown") (set_in near.0 (codes "sourcetype")) in
    (name, type_of_source entries source host ranks near.0 name are near.1 refl)

with_ranks : (entries : List PropsEntry) (meta : ChannelMeta) → HaveRanks entries entries meta.source meta.host → (s : Settings)
    × AreSettings entries meta s
with_ranks entries meta h =
    let type_is = type_by entries meta.source meta.host h.ranks h.are meta.sourcetype in
    let near = nearest_exist (rank_for h.ranks (Some type_is.0)) entries in
    let set = set_by near.0 type_is.0 in
    (set.0, settled entries meta type_is.0 h.ranks near.0 set.0 h.are type_is.1 near.1 set.1)

pub settings_exist : SettingsExist
settings_exist entries meta = with_ranks entries meta (have_ranks entries meta.source meta.host entries)
