use Rattle.ix_props.proofs.ZoneLemmas.{utc_reads}
use Rattle.ix_props.proofs.zones.Zone.utc.Goals as goal

pub returns-in-Ok-clause-is_rule : goal.returns-in-Ok-clause-is_rule
returns-in-Ok-clause-is_rule c = utc_reads

pub returns-in-Err-clause-is_rule : goal.returns-in-Err-clause-is_rule
returns-in-Err-clause-is_rule c = utc_reads
