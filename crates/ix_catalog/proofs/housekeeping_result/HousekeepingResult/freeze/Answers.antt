use Rattle.std.proofs.Common.{rules}
use Rattle.ix_catalog.proofs.housekeeping_result.HousekeepingResult.freeze.Goals as goal

pub returns-in_ok-copy_out : goal.returns-in_ok-copy_out
returns-in_ok-copy_out c = search rules
