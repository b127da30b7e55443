use Rattle.std.proofs.Common.{◌≡◌, ◌++◌, take}
use Rattle.ix_props.proofs.classes.add_transforms.Given as goal

abbrev pub invariant-loop-transform : goal.invariant-loop-transform
invariant-loop-transform l = l.list ≡ l.fn.list ++ take l.transform-index l.transforms
