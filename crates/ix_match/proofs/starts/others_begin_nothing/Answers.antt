use Rattle.ix_match.proofs.StartLemmas.{others-begin-nothing}
use Rattle.ix_match.proofs.starts.others_begin_nothing.Goals as goal

pub returns : goal.returns
returns c = others-begin-nothing
