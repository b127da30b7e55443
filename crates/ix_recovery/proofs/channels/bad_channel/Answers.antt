use Rattle.std.proofs.Common.{rules}
use Rattle.ix_recovery.proofs.channels.bad_channel.Goals as goal

pub returns : goal.returns
returns c = search rules
