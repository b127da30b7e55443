use Rattle.indexd_core.proofs.ChainLemmas.{exits}
use Rattle.indexd_core.proofs.chain.an_exit_is_a_stop.Goals as goal

pub returns : goal.returns
returns g c = λ past before disk leaves. exits g.D.Disk g.met.D.Disk.counts_now past before disk leaves
