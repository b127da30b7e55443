use Rattle.std.proofs.Common.{◌≡◌, ◌++◌, drop}
use Rattle.std.specs.List.{flat_map}
use Rattle.ix_monitor.specs.Inputs.{watched_at, inputs}
use Rattle.ix_monitor.proofs.inputs.list_inputs.Given as goal

abbrev pub invariant-loop-at : goal.invariant-loop-at
invariant-loop-at l = l.list ++ flat_map (watched_at l.inputs) (drop l.at l.inputs) ≡ inputs l.inputs
