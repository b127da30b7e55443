use Rattle.std.proofs.Common.{List, sym, subst}
use Rattle.std.specs.List.{AllByRecursion}
use Rattle.ix_monitor.specs.Inputs.{IsStated}
use Rattle.ix_monitor.specs.declared.inputs.Input.{Input}
use Rattle.ix_monitor.proofs.Stating.{are_stated}
use Rattle.ix_monitor.proofs.inputs.Inputs.load.Goals as goal

pub returns-clause-stated : goal.returns-clause-stated
returns-clause-stated c =
    subst (λ (list : List Input). AllByRecursion (IsStated c.args.limits.now) list) (sym c.in_ok-list_inputs.ensures)
    (are_stated c.args.limits.now c.args.inputs.now c.in_ok-judge.ensures.ok)
