use Rattle.indexd_core.proofs.ChainLemmas.{greater}
use Rattle.indexd_core.proofs.chain.the_next_run_has_a_greater_number.Goals as goal

pub returns : goal.returns
returns g c = λ past next disk may is. greater g.D.Disk g.met.D.Disk.seen_may_stay past next disk may is
