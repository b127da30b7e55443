use Rattle.ix_model.specs.Step.{state_after}
use Rattle.ix_model.proofs.RolledFiles.{rolls_filed}
use Rattle.ix_model.proofs.on_disk.rolls_are_filed.Goals as goal

pub returns : goal.returns
returns c = λ choose history index. rolls_filed index (state_after choose history).catalog
