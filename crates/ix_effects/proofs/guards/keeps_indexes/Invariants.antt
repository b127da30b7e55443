use Rattle.std.proofs.Common.{take}
use Rattle.std.specs.Prelude.{All}
use Rattle.ix_catalog.specs.Numbers.{KeepsIndex}
use Rattle.ix_effects.proofs.guards.keeps_indexes.Given as goal

abbrev pub invariant-loop-view : goal.invariant-loop-view
invariant-loop-view l = All KeepsIndex (take l.view-index l.indexes)
