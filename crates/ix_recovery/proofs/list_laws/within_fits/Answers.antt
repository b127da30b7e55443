use Rattle.ix_recovery.proofs.ListFitting.{fits_within}
use Rattle.ix_recovery.proofs.Within.{within_fits}
use Rattle.ix_recovery.proofs.list_laws.within_fits.Goals as goal

pub returns-clause-within : goal.returns-clause-within
returns-clause-within c = within_fits

pub returns-clause-fits : goal.returns-clause-fits
returns-clause-fits c = fits_within
