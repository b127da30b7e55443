use Rattle.ix_model.proofs.SaidSpots.{spots_are_said, settings_are_said, moments_are_said}
use Rattle.ix_model.proofs.books.spots_are_said.Goals as goal

pub returns-clause-spots : goal.returns-clause-spots
returns-clause-spots c = spots_are_said

pub returns-clause-settings : goal.returns-clause-settings
returns-clause-settings c = settings_are_said

pub returns-clause-moments : goal.returns-clause-moments
returns-clause-moments c = moments_are_said
