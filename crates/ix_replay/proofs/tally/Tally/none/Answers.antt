use Rattle.ix_replay.proofs.Covered.{covers_none}
use Rattle.ix_replay.proofs.tally.Tally.none.Goals as goal

pub returns : goal.returns
returns c = covers_none _ c.none.ensures c.none-2.ensures
