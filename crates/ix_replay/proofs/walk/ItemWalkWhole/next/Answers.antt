use Rattle.std.proofs.Common.{rules}
use Rattle.ix_replay.proofs.walk.ItemWalkWhole.next.Goals as goal

pub returns : goal.returns
returns c = search rules
