use Rattle.std.proofs.Common.{rules}
use Rattle.ix_state.proofs.files.add_of.Goals as goal

pub returns-in_ok-push : goal.returns-in_ok-push
returns-in_ok-push c = search rules
