use Rattle.ix_recovery.proofs.Listing.{states_are_listed}
use Rattle.ix_recovery.proofs.list_laws.states_are_listed.Goals as goal

pub returns : goal.returns
returns c = states_are_listed
