use Rattle.std.proofs.Common.{rules}
use Rattle.ix_transforms.proofs.matches.behind.Goals as goal

pub returns : goal.returns
returns c = search rules
