use Rattle.indexd_core.proofs.WatchingLemmas.{monitors_leave}
use Rattle.indexd_core.proofs.watching.monitors_leave.Goals as goal

pub returns : goal.returns
returns g c = λ past status close from to may comes. monitors_leave g.D.Disk past from to may status close comes
