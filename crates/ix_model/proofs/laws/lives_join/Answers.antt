use Rattle.ix_model.specs.Step.{begun, state_after}
use Rattle.ix_model.proofs.Living.{joins}
use Rattle.ix_model.proofs.laws.lives_join.Goals as goal

pub returns : goal.returns
returns c = λ choose before history name meta moment none sound usable spares.
    joins choose (state_after choose before) history name meta moment none
    (c.settled_stays.ensures (begun choose (state_after choose before).force name meta).settings sound usable) spares
