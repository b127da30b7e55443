use Rattle.std.proofs.Common.{rules}
use Rattle.ix_store.proofs.store.Store.draw.Goals as goal

pub returns-clause-committed : goal.returns-clause-committed
returns-clause-committed g c = search rules
