use Rattle.std.proofs.Common.{◌+◌, ◌*◌, length}
use Rattle.ix_pikevm.specs.Leaf.{text_of}
use Rattle.ix_pikevm.proofs.SettleLemmas.{At, unmarked}
use Rattle.ix_pikevm.proofs.settle.settle.Given as goal

abbrev pub invariant-loop-thread : goal.invariant-loop-thread
invariant-loop-thread l = At l.code l.looks (text_of l.input) l.place l.fn.cells.items l.fn.stack.items l.stamp l.marks l.cells.items
    l.ready.items l.stack.items

abbrev pub decreases-loop-thread : goal.decreases-loop-thread
decreases-loop-thread l = 2 * unmarked l.stamp l.marks + length l.stack.items
