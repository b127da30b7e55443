use Rattle.ix_model.proofs.SaidChannels.{channels_are_said}
use Rattle.ix_model.proofs.books.channels_are_said.Goals as goal

pub returns : goal.returns
returns c = channels_are_said
