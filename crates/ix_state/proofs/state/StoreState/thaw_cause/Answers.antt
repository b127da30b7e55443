use Rattle.std.proofs.Common.{rules}
use Rattle.ix_state.proofs.state.StoreState.thaw_cause.Goals as goal

pub returns-in-Some : goal.returns-in-Some
returns-in-Some c = search rules
