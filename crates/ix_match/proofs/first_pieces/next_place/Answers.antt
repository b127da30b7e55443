use Rattle.std.proofs.Common.{arith}
use Rattle.std.proofs.lemmas.Option.{slice_get-get_or}
use Rattle.ix_pattern.specs.Rows.{tree}
use Rattle.ix_match.specs.Fronts.{fronts}
use Rattle.ix_match.proofs.FrontLemmas.{none-more}
use Rattle.ix_match.proofs.first_pieces.next_place.Goals as goal

pub loop-at-preserved : goal.loop-at-preserved
loop-at-preserved g c =
    none-more (fronts (tree c.args.p.now.rows)) c.args.text.now c.args.place c.loop-at.at _ c.may_begin.result
    (slice_get-get_or c.args.text.now c.loop-at.at 0 (omega arith)) c.may_begin.ensures c.if-may_begin.false
    c.loop-at.invariant
