use Rattle.ix_model.proofs.EarlierFiles.{earlier_none}
use Rattle.ix_model.proofs.on_disk.earlier_have_none.Goals as goal

pub returns : goal.returns
returns c = earlier_none
