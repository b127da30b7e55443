use Rattle.ix_life.specs.Prefix.{shortest, allowed}
use Rattle.ix_life.proofs.PrefixLemmas.{one_shortest, shortest_is}
use Rattle.ix_life.proofs.caps.one_shortest.Goals as goal

pub returns : goal.returns
returns c = λ cap bs n h. one_shortest (allowed cap) bs n (shortest (allowed cap) bs) h (shortest_is (allowed cap) bs)
