use Rattle.std.proofs.Common.{◌≡◌, take}
use Rattle.ix_transforms.proofs.transforms.prepare_transforms.Given as goal

abbrev pub invariant-loop-transform : goal.invariant-loop-transform
invariant-loop-transform l = l.prepared ≡ take l.transform-index l.transform-items
