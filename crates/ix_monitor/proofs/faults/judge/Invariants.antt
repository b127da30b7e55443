use Rattle.std.proofs.Common.{◌≡◌, drop}
use Rattle.ix_monitor.specs.Inputs.{first_fault}
use Rattle.ix_monitor.proofs.faults.judge.Given as goal

abbrev pub invariant-loop-at : goal.invariant-loop-at
invariant-loop-at l = first_fault l.limits (drop l.at l.inputs) ≡ first_fault l.limits l.inputs
