use Rattle.indexd_core.proofs.ChainLemmas.{feeds_leave, serves_leave, task_leaves, stored_leaves}
use Rattle.indexd_core.proofs.chain.runs_leave.Goals as goal

pub returns : goal.returns
returns g c = record {
  fed = λ past status from to may. feeds_leave g.D.Disk past from to may status;
  served = λ past status requests from to may. serves_leave g.D.Disk past from to may status requests;
  tasked = λ past status task from to may. task_leaves g.D.Disk past from to may status task;
  stored = λ past status stated from to may. stored_leaves g.D.Disk past from to may status stated;
}
