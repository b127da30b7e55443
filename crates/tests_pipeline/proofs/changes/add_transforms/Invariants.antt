use Rattle.std.proofs.Common.{All}
use Rattle.ix_conf_values.specs.Transforms.{HasDestination}
use Rattle.tests_pipeline.proofs.changes.add_transforms.Given as goal

abbrev pub invariant-loop-name : goal.invariant-loop-name
invariant-loop-name l = All (λ transform. HasDestination transform) l.transforms
