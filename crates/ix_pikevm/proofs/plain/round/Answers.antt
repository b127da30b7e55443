use Rattle.ix_pikevm.proofs.plain.round.Goals as goal

pub returns-clause-rounds : goal.returns-clause-rounds
returns-clause-rounds c = λ real ag pattern rows blank mean rank m t goal head.
    c.in_ok-after.ensures.rounds real ag rows blank mean rank m (λ pc piece next e. absurd (c.requires.plain pc piece next e)) goal head
