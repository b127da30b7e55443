use Rattle.std.proofs.Common.{length, ◌-◌, ◌≡◌, ◌≤◌, ◌++◌, take, drop}
use Rattle.ix_fs.specs.Trees.{first_segment}
use Rattle.ix_fs.proofs.trees.first_segment.Given as goal

abbrev pub invariant-loop-end : goal.invariant-loop-end
invariant-loop-end l = (first_segment l.path ≡ take l.end l.path ++ first_segment (drop l.end l.path)) × (l.end ≤ length l.path)

abbrev pub decreases-loop-end : goal.decreases-loop-end
decreases-loop-end l = length l.path - l.end
