use Rattle.std.proofs.Common.{rules}
use Rattle.ix_parse.proofs.outcomes.Owner.event.Goals as goal

pub returns : goal.returns
returns c = search rules
