use Rattle.std.proofs.Common.{◌≡◌, take}
use Rattle.ix_effects.proofs.leaving.copy_of.Given as goal

abbrev pub invariant-loop-entry : goal.invariant-loop-entry
invariant-loop-entry l = l.copies ≡ take l.entry-index l.entries
