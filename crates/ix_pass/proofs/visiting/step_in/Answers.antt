use Rattle.std.proofs.Common.{ℕ, List, ap, ◌∙◌}
use Rattle.std.specs.Option.{option_copied}
use Rattle.ix_catalog.specs.Lists.{find}
use Rattle.ix_model.specs.State.{spot_path}
use Rattle.ix_model.specs.Step.{state_after}
use Rattle.ix_pass.proofs.visiting.step_in.Goals as goal

pub returns-clause-is : goal.returns-clause-is
returns-clause-is g c = (
  option_copied c.spot.result,
  c.plan.ensures,
  λ choose history base k old staged. c.spot.ensures choose history base k old staged
      ∙ ap (λ (p : List ℕ). find spot_path p (state_after choose history).spots) c.as_slice.ensures,
)
