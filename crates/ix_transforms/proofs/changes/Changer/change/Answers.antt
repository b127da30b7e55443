use Rattle.std.proofs.Common.{rules}
use Rattle.ix_transforms.proofs.changes.Changer.change.Goals as goal

pub returns : goal.returns
returns c = search rules
