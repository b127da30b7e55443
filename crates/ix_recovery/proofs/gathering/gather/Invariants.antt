use Rattle.std.proofs.Common.{◌≡◌, vec_len}
use Rattle.ix_recovery.specs.Gathered.{nothing, all_taken}
use Rattle.ix_recovery.proofs.gathering.gather.Given as goal

abbrev pub invariant-loop-item : goal.invariant-loop-item
invariant-loop-item l = all_taken l.items.items l.gathered ≡ all_taken l.fn.items.items nothing

abbrev pub decreases-loop-item : goal.decreases-loop-item
decreases-loop-item l = vec_len l.items
