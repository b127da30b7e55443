use Rattle.ix_model.proofs.SaidShelves.{shelves_are_said}
use Rattle.ix_model.proofs.books.shelves_are_said.Goals as goal

pub returns : goal.returns
returns c = shelves_are_said
