use Rattle.ix_effects.proofs.catalog_effect.Base.work.Goals as goal
use Rattle.ix_effects.proofs.Failing.{memory_no_full}

pub returns-in_err-copy-clause-full : goal.returns-in_err-copy-clause-full
returns-in_err-copy-clause-full c = memory_no_full c.from_residual.result c.from_residual.ensures.1
