use Rattle.ix_transforms.proofs.TurnLemmas.{matches-in-turn}
use Rattle.ix_transforms.proofs.laws.matches_are_in_turn.Goals as goal

pub returns : goal.returns
returns c = matches-in-turn
