use Rattle.ix_model.proofs.Dealing.{split_after}
use Rattle.ix_model.proofs.laws.events_are_dealt.Goals as goal

pub returns : goal.returns
returns c = split_after
