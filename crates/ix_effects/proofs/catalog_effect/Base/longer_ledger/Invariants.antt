use Rattle.std.proofs.Common.{◌≡◌, ◌++◌, take}
use Rattle.ix_effects.specs.Working.{here}
use Rattle.ix_effects.proofs.catalog_effect.Base.longer_ledger.Given as goal

abbrev pub invariant-loop-entry : goal.invariant-loop-entry
invariant-loop-entry l = l.ledger ≡ here l.self ++ take l.entry-index l.more
