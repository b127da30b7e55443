use Rattle.ix_commit.proofs.Reading.{bad_nowhere}
use Rattle.ix_commit.proofs.laws.bad_logs_lead_nowhere.Goals as goal

pub returns : goal.returns
returns g c = λ file at image book bad leads. bad_nowhere g.B.ManifestState.fits file at image book bad leads
