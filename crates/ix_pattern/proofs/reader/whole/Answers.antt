use Rattle.std.proofs.Common.{unwrap_or}
use Rattle.ix_pattern.specs.Piece.{nothing}
use Rattle.ix_pattern.specs.Syntax.{pieces, weights}
use Rattle.ix_pattern.proofs.PartLemmas.{lift-below, lift-optional, all-add}
use Rattle.ix_pattern.proofs.reader.whole.Goals as goal

pub alternatives-requires-clause-first : goal.alternatives-requires-clause-first
alternatives-requires-clause-first c = c.in_ok-first.ensures.kept.1

pub alternatives-requires-clause-others : goal.alternatives-requires-clause-others
alternatives-requires-clause-others c =
    lift-below c.args.work.now c.first_of.new.work c.args.frame.others c.in_ok-first.ensures.kept.0 c.requires.holds.others

pub returns-clause-meaning : goal.returns-clause-meaning
returns-clause-meaning c =
    λ n s times f.
    all-add _ _ _ _ _ _ c.in_ok-first.ensures.kept.0
    (c.alternatives.ensures.meaning (unwrap_or (pieces n s).first nothing) (unwrap_or (weights s).first 1) (pieces n s).others
    (weights s).others
    (c.in_ok-first.ensures.meaning (pieces n s).first (weights s).first f.first).added
    (lift-optional c.args.work.now c.first_of.new.work c.args.frame.others (pieces n s).others (weights s).others
    c.in_ok-first.ensures.kept.0 f.others))
