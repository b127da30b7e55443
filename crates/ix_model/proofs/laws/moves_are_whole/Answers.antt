use Rattle.ix_model.proofs.Rolling.{rolls_whole}
use Rattle.ix_model.proofs.Viewing.{ticks_counted}
use Rattle.ix_model.proofs.laws.moves_are_whole.Goals as goal

pub returns-clause-ticks : goal.returns-clause-ticks
returns-clause-ticks c = ticks_counted

pub returns-clause-rolls : goal.returns-clause-rolls
returns-clause-rolls c = rolls_whole
