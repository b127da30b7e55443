use Rattle.indexd_core.proofs.ReadLemmas.{all_read}
use Rattle.indexd_core.proofs.reading.a_feed_that_is_done_has_read_all.Goals as goal

pub returns : goal.returns
returns g c = all_read g.D.Disk
