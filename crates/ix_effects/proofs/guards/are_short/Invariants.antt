use Rattle.std.proofs.Common.{take}
use Rattle.std.specs.Prelude.{All}
use Rattle.ix_effects.specs.Guarding.{HasShortName}
use Rattle.ix_effects.proofs.guards.are_short.Given as goal

abbrev pub invariant-loop-view : goal.invariant-loop-view
invariant-loop-view l = All HasShortName (take l.view-index l.indexes)
