use Rattle.std.proofs.Common.{rules}
use Rattle.ix_transforms.proofs.AfterLemmas.{after_given}
use Rattle.ix_transforms.proofs.transforms.PreparedTransform.value_after.Goals as goal

pub returns : goal.returns
returns c = search (rules, after_given)
