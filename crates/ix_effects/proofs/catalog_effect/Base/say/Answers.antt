use Rattle.std.proofs.Common.{rules}
use Rattle.ix_effects.proofs.catalog_effect.Base.say.Goals as goal

pub returns-clause-ledger : goal.returns-clause-ledger
returns-clause-ledger c = search rules
