use Rattle.std.proofs.Common.{take}
use Rattle.ix_recovery.specs.Putting.{AreSaid}
use Rattle.ix_recovery.proofs.whole_channels.put_channels.Given as goal

abbrev pub invariant-loop-found : goal.invariant-loop-found
invariant-loop-found l = AreSaid (take l.found-index l.opens) l.initial.said l.said
