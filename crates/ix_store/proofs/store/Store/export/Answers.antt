use Rattle.std.proofs.Common.{rules}
use Rattle.ix_store.proofs.store.Store.export.Goals as goal

pub returns-then-closes-clause-closes : goal.returns-then-closes-clause-closes
returns-then-closes-clause-closes g c = search rules
