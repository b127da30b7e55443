use Rattle.ix_watch.proofs.Following.{longer_is_watched}
use Rattle.ix_watch.proofs.laws.longer_is_watched.Goals as goal

pub returns : goal.returns
returns c = longer_is_watched
