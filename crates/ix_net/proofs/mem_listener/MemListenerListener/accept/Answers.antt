use Rattle.std.proofs.Common.{rules, ◌≡◌, ◌∷◌}
use Rattle.ix_net.specs.Waiting.{IsFirstOf}
use Rattle.ix_net.proofs.mem_listener.MemListenerListener.accept.Goals as goal

pub returns-clause-first : goal.returns-clause-first
returns-clause-first c = record {
  first = c.remove-conn.result;
  taken = search rules;
  bytes = c.begin.ensures.bytes;
  at = c.begin.ensures.at;
  most = c.begin.ensures.pieces;
  plan = c.begin.ensures.plan;
}
