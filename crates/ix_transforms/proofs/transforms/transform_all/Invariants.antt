use Rattle.std.proofs.Common.{◌≡◌, take}
use Rattle.ix_transforms.specs.Transforms.{transformed_by}
use Rattle.ix_transforms.proofs.transforms.transform_all.Given as goal

abbrev pub invariant-loop-by : goal.invariant-loop-by
invariant-loop-by l = l.now ≡ transformed_by (take l.by-index l.by-items) l.initial.now
