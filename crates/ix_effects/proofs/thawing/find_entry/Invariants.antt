use Rattle.std.proofs.Common.{◌≡◌, drop}
use Rattle.ix_effects.specs.Working.{entry_of}
use Rattle.ix_effects.proofs.thawing.find_entry.Given as goal

abbrev pub invariant-loop-entry : goal.invariant-loop-entry
invariant-loop-entry l = entry_of l.index l.id (drop l.entry-index l.ledger) ≡ entry_of l.index l.id l.ledger
