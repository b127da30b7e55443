use Rattle.std.proofs.Common.{◌≡◌}
use Rattle.ix_net.proofs.tcp.TcpListen.next_peer.Given as goal

abbrev pub invariant-loop : goal.invariant-loop
invariant-loop g l = (l.self.out ≡ l.initial.self.out) × (l.self.faults ≡ l.initial.self.faults)
