use Rattle.indexd_core.proofs.ChainLemmas.{task_keeps, stored_keeps}
use Rattle.indexd_core.proofs.chain.runs_keep.Goals as goal

pub returns : goal.returns
returns g c = record {
  tasked = λ past status task from to may kept comes. task_keeps g.D.Disk past from to may status task kept comes;
  stored = λ past status stated from to may kept comes. stored_keeps g.D.Disk past from to may status stated kept comes;
}
