use Rattle.ix_sessions.proofs.Known.{lasts}
use Rattle.ix_sessions.proofs.laws.what_is_known_lasts.Goals as goal

pub returns : goal.returns
returns g c = λ s. lasts g.D.Disk g.M.Book.ManifestState.fits s
