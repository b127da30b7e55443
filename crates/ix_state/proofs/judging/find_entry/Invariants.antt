use Rattle.std.proofs.Common.{◌≡◌, drop}
use Rattle.ix_state.specs.Causes.{entry_in}
use Rattle.ix_state.proofs.judging.find_entry.Given as goal

abbrev pub invariant-loop-entry : goal.invariant-loop-entry
invariant-loop-entry l = entry_in l.index l.id (drop l.entry-index l.ledger) ≡ entry_in l.index l.id l.ledger
