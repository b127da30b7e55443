use Rattle.std.proofs.Common.{◌≡◌, map, take}
use Rattle.ix_commit.specs.Cuts.{len_in}
use Rattle.ix_commit.proofs.staged_append.lengths_of.Given as goal

abbrev pub invariant-loop-part : goal.invariant-loop-part
invariant-loop-part l = l.lens.items ≡ map len_in (take l.part-index l.parts)
