use Rattle.ix_sessions.proofs.Known.{stays_known}
use Rattle.ix_sessions.proofs.laws.what_is_known_stays_known.Goals as goal

pub returns : goal.returns
returns g c = λ s. stays_known g.D.Disk g.M.Book.ManifestState.fits s
