use Rattle.std.proofs.Common.{take}
use Rattle.ix_manifest.specs.Repeats.{Tells}
use Rattle.ix_manifest.proofs.repeats.repeats_of.Given as goal

abbrev pub invariant-loop-slot : goal.invariant-loop-slot
invariant-loop-slot l = Tells l.seen (take l.slot-index l.slots)
