use Rattle.ix_recovery.proofs.Stored.{have_records}
use Rattle.ix_recovery.proofs.range_laws.events_have_records.Goals as goal

pub returns : goal.returns
returns c = have_records c.events_keep_limits.ensures.sizes c.events_keep_limits.ensures.arrivals
