use Rattle.ix_sessions.proofs.Known.{all_told}
use Rattle.ix_sessions.proofs.laws.all_is_told_behind_a_commit.Goals as goal

pub returns : goal.returns
returns g c = λ s. all_told g.D.Disk g.M.Book.ManifestState.fits s
