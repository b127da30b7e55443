use Rattle.std.proofs.Common.{rules}
use Rattle.ix_replay.proofs.standing.run_of.Goals as goal

pub returns-in-Some-Run : goal.returns-in-Some-Run
returns-in-Some-Run c = search rules
