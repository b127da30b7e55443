use Rattle.std.proofs.Common.{rules}
use Rattle.ix_props.proofs.zones.find_zone.Goals as goal

pub returns-in-Ok-clause-ok : goal.returns-in-Ok-clause-ok
returns-in-Ok-clause-ok c = search rules
