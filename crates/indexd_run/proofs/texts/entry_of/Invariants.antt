use Rattle.std.proofs.Common.{◌≡◌, drop}
use Rattle.indexd_run.specs.Tasks.{entry_of}
use Rattle.indexd_run.proofs.texts.entry_of.Given as goal

abbrev pub invariant-loop-entry : goal.invariant-loop-entry
invariant-loop-entry l = entry_of l.index l.id (drop l.entry-index l.entries) ≡ entry_of l.index l.id l.entries
