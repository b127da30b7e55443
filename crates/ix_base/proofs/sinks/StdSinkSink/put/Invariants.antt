use Rattle.std.proofs.Common.{◌≡◌}
use Rattle.ix_base.proofs.sinks.StdSinkSink.put.Given as goal

abbrev pub invariant-loop : goal.invariant-loop
invariant-loop g l = l.self.faults ≡ l.initial.self.faults
