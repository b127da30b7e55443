use Rattle.std.proofs.Common.{rules}
use Rattle.ix_base.proofs.clocks.MemClockClock.now.Goals as goal

pub returns : goal.returns
returns c = search rules
