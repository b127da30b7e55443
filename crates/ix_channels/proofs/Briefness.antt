-- Brief events have a record wherever they go, and small events are brief.
use Rattle.std.proofs.Common.{List, arith}
use Rattle.std.specs.Prelude.{slice_index_or}
use Rattle.std.specs.List.{All}
use Rattle.ix_base.specs.declared.events.Routed.{Routed}
use Rattle.ix_base.specs.declared.events.Routed.TheVariants.{To, Null}
use Rattle.ix_life.specs.declared.sets.LimitSet.{LimitSet}
use Rattle.ix_parse.specs.Limits.{IsSmall}
use Rattle.ix_catalog.specs.Numbers.{HasRecord}
use Rattle.ix_catalog.proofs.RecordSizes.{small_has_record}
use Rattle.ix_channels.specs.Sizes.{IsBriefOutcome, HasBriefChance}

brief_has_record : (set : LimitSet) (outcome : Routed) → HasBriefChance set → IsBriefOutcome outcome → HasRecord set outcome
brief_has_record set Null chance brief = tt
brief_has_record set (To event) chance brief =
    let host = brief.host in
    let source = brief.source in
    let sourcetype = brief.sourcetype in
    let meta = brief.meta in
    let raw = brief.raw in
    let index = brief.index in
    small_has_record set event (omega (arith, host, source, sourcetype, meta, raw)) (omega (arith, index)) chance

pub brief_have_records : (set : LimitSet) (outcomes : List Routed) → HasBriefChance set → All IsBriefOutcome outcomes →
    All (HasRecord set) outcomes
brief_have_records set outcomes chance brief = λ k d h. brief_has_record set (slice_index_or outcomes k d) chance (brief k d h)

small_is_brief : (outcome : Routed) → IsSmall outcome → IsBriefOutcome outcome
small_is_brief Null small = tt
small_is_brief (To event) small =
    record {
      index = omega (arith, small);
      host = omega (arith, small);
      source = omega (arith, small);
      sourcetype = omega (arith, small);
      meta = omega (arith, small);
      raw = omega (arith, small);
    }

pub small_are_brief : (outcomes : List Routed) → All IsSmall outcomes → All IsBriefOutcome outcomes
small_are_brief outcomes small = λ k d h. small_is_brief (slice_index_or outcomes k d) (small k d h)
