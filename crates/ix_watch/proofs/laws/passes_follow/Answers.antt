use Rattle.ix_watch.proofs.Passed.{passes_follow}
use Rattle.ix_watch.proofs.laws.passes_follow.Goals as goal

pub returns : goal.returns
returns c = passes_follow
