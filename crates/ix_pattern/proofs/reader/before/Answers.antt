use Rattle.ix_pattern.specs.Syntax.{repeated, repeated_weight}
use Rattle.ix_pattern.proofs.PartLemmas.{lift-below, lift-optional, all-add}
use Rattle.ix_pattern.proofs.reader.before.Goals as goal

pub joined-requires-clause-part : goal.joined-requires-clause-part
joined-requires-clause-part c = c.in_ok-part.ensures.kept.1

pub joined-requires-clause-rest : goal.joined-requires-clause-rest
joined-requires-clause-rest c = lift-below c.args.work.now c.counted.new.work c.args.frame.sequence c.in_ok-part.ensures.kept.0
    c.requires.holds.sequence

pub returns-clause-meaning : goal.returns-clause-meaning
returns-clause-meaning c =
    λ p w q v i o.
    all-add _ _ _ _ _ _ c.in_ok-part.ensures.kept.0
    (c.joined.ensures.meaning (repeated p c.args.frame.waiting) (repeated_weight w c.args.frame.waiting) q v
    (c.in_ok-part.ensures.meaning p w i).added
    (lift-optional c.args.work.now c.counted.new.work c.args.frame.sequence q v c.in_ok-part.ensures.kept.0 o))
