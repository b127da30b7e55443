use Rattle.std.proofs.Common.{◌++◌, ◌∙◌, ap}
use Rattle.std.proofs.lemmas.List.{append-nil}
use Rattle.ix_pikevm.specs.Code.{history}
use Rattle.ix_backtrack.specs.Frames.{frame_ways}
use Rattle.ix_backtrack.proofs.choice.choice.Goals as goal

pub returns-then-dies_soon-clause-chooses : goal.returns-then-dies_soon-clause-chooses
returns-then-dies_soon-clause-chooses g c =
    λ blank mean rank m cells. ap (λ l. frame_ways mean cells c.args.first
    ++ l) (c.dies_soon.ensures c.if-dies_soon.true blank mean rank m (history cells c.args.other.trail))
    ∙ append-nil (frame_ways mean cells c.args.first) ∙ c.in-Some.ensures.glances blank mean rank m cells

pub returns-in_default : goal.returns-in_default
returns-in_default g c = record {
  chooses = λ blank mean rank m cells. ap (λ l. l ++ frame_ways mean cells c.args.other)
      (c.in_default.ensures.glances blank mean rank m cells);
  known = λ n first other. other;
}
