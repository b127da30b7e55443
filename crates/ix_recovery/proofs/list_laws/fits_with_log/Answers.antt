use Rattle.ix_recovery.proofs.Shortened.{fits_with_log}
use Rattle.ix_recovery.proofs.list_laws.fits_with_log.Goals as goal

pub returns : goal.returns
returns c = fits_with_log
