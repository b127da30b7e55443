use Rattle.std.proofs.Common.{take}
use Rattle.ix_props.specs.Lists.{AreTransforms}
use Rattle.ix_props.proofs.lists.read_transforms.Given as goal

abbrev pub invariant-loop-name : goal.invariant-loop-name
invariant-loop-name l = AreTransforms l.transforms (take l.name-index l.name-items) l.found
