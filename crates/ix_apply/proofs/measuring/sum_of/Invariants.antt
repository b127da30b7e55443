use Rattle.std.proofs.Common.{map, take}
use Rattle.ix_bounds.specs.Totals.{AreChannels}
use Rattle.ix_apply.specs.Seen.{named}
use Rattle.ix_apply.proofs.measuring.sum_of.Given as goal

abbrev pub invariant-loop-one : goal.invariant-loop-one
invariant-loop-one l = AreChannels (map named (take l.one-index l.channels)) l.sum
