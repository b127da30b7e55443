use Rattle.std.proofs.Common.{take}
use Rattle.ix_channels.specs.Ended.{AreEnded}
use Rattle.ix_channels.proofs.endings.end_each.Given as goal

abbrev pub invariant-loop-found : goal.invariant-loop-found
invariant-loop-found l = AreEnded l.limits (take l.found-index l.channels) l.endings
