use Rattle.std.proofs.Common.{rules}
use Rattle.ix_sessions.proofs.serve.break_of.Goals as goal

pub returns-in-Err-Link : goal.returns-in-Err-Link
returns-in-Err-Link c = search rules
