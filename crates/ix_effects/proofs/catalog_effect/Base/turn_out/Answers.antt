use Rattle.std.proofs.Common.{rules}
use Rattle.ix_effects.proofs.Failing.{memory_no_full}
use Rattle.ix_effects.proofs.catalog_effect.Base.turn_out.Goals as goal

pub returns-clause-done : goal.returns-clause-done
returns-clause-done c = search rules

pub returns-in_err-made-clause-full : goal.returns-in_err-made-clause-full
returns-in_err-made-clause-full c = memory_no_full c.from_residual.result c.from_residual.ensures.1
