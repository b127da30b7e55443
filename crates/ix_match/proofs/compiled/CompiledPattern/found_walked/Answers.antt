use Rattle.std.proofs.Common.{rules}
use Rattle.ix_match.proofs.compiled.CompiledPattern.found_walked.Goals as goal

pub returns-clause-first : goal.returns-clause-first
returns-clause-first g c = search rules
