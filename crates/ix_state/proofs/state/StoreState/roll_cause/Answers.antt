use Rattle.std.proofs.Common.{rules}
use Rattle.ix_state.proofs.state.StoreState.roll_cause.Goals as goal

pub returns-then-is_some : goal.returns-then-is_some
returns-then-is_some c = search rules
