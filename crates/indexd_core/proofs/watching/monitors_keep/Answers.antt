use Rattle.indexd_core.proofs.WatchingLemmas.{monitors_keep}
use Rattle.indexd_core.proofs.watching.monitors_keep.Goals as goal

pub returns : goal.returns
returns g c = λ past status close from to may kept comes. monitors_keep g.D.Disk past from to may status close kept comes
