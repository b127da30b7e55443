use Rattle.std.proofs.Common.{rules}
use Rattle.ix_store.proofs.store.Store.acked.Goals as goal

pub returns-then-run-self : goal.returns-then-run-self
returns-then-run-self g c = search rules
