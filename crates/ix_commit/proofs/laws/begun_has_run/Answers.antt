use Rattle.ix_commit.proofs.Reading.{begun_has_run}
use Rattle.ix_commit.proofs.laws.begun_has_run.Goals as goal

pub returns : goal.returns
returns g c = begun_has_run g.B.ManifestState.fits
