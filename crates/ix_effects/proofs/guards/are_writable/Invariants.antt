use Rattle.std.proofs.Common.{take}
use Rattle.std.specs.Prelude.{All}
use Rattle.ix_effects.specs.Guarding.{IsWritableEntry}
use Rattle.ix_effects.proofs.guards.are_writable.Given as goal

abbrev pub invariant-loop-entry : goal.invariant-loop-entry
invariant-loop-entry l = All IsWritableEntry (take l.entry-index l.entries)
