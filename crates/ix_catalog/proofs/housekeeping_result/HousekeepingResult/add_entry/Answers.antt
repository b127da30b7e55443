use Rattle.std.proofs.Common.{rules}
use Rattle.ix_catalog.proofs.housekeeping_result.HousekeepingResult.add_entry.Goals as goal

pub returns-in_ok-push : goal.returns-in_ok-push
returns-in_ok-push c = search rules
