use Rattle.std.proofs.Common.{◌≡◌, length, take}
use Rattle.ix_commit.specs.Cuts.{cut_first}
use Rattle.ix_commit.proofs.staged_append.cut_all.Given as goal

abbrev pub invariant-loop-i : goal.invariant-loop-i
invariant-loop-i l = l.parts.items ≡ cut_first l.i l.lens (take (length l.lens) l.fn.parts.items)
