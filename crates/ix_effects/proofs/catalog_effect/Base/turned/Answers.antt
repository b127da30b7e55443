use Rattle.std.proofs.Common.{rules}
use Rattle.ix_effects.proofs.catalog_effect.Base.turned.Goals as goal

pub returns-clause-done : goal.returns-clause-done
returns-clause-done c = search rules
