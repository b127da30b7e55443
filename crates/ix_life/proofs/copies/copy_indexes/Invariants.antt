use Rattle.std.proofs.Common.{◌≡◌, take}
use Rattle.ix_life.proofs.copies.copy_indexes.Given as goal

abbrev pub invariant-loop-view : goal.invariant-loop-view
invariant-loop-view l = l.copies ≡ take l.view-index l.indexes
