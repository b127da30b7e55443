use Rattle.std.proofs.Common.{◌≡◌}
use Rattle.ix_net.proofs.tcp_link.TcpLinkLink.put.Given as goal

abbrev pub invariant-loop : goal.invariant-loop
invariant-loop g l = (l.self.faults ≡ l.initial.self.faults) × (l.self.start ≡ l.initial.self.start)
