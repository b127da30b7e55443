use Rattle.indexd_core.proofs.WatchingLemmas.{monitors_read}
use Rattle.indexd_core.proofs.watching.watched_files_are_read_on.Goals as goal

pub returns : goal.returns
returns g c = λ past status close from to files path before file may told on grows comes.
    monitors_read g.D.Disk past from to may files told path before file on grows status close comes
