use Rattle.ix_watch.proofs.Following.{visits_follow}
use Rattle.ix_watch.proofs.laws.visits_follow.Goals as goal

pub returns : goal.returns
returns c = visits_follow
