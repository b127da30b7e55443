use Rattle.ix_effects.proofs.catalog_effect.Base.bring_back.Goals as goal
use Rattle.ix_effects.proofs.Failing.{memory_no_full}

pub returns-in_err-push-clause-full : goal.returns-in_err-push-clause-full
returns-in_err-push-clause-full c = memory_no_full c.from_residual.result c.from_residual.ensures.1

pub returns-in_err-shelves-clause-full : goal.returns-in_err-shelves-clause-full
returns-in_err-shelves-clause-full c = memory_no_full c.from_residual-in_err-shelves.result c.from_residual-in_err-shelves.ensures.1

pub returns-in_err-thaw-clause-full : goal.returns-in_err-thaw-clause-full
returns-in_err-thaw-clause-full c = memory_no_full c.from_residual-in_err-thaw.result c.from_residual-in_err-thaw.ensures.1
