use Rattle.ix_model.specs.State.{State}
use Rattle.ix_model.specs.Step.{state_after}
use Rattle.ix_model.proofs.Stepping.{sound_after}
use Rattle.ix_model.proofs.TurnedIndexes.{turns_same}
use Rattle.ix_model.proofs.on_disk.turns_are_shelved.Goals as goal

pub returns : goal.returns
returns c = λ choose history moment. (let m : State = state_after choose history in
    turns_same m.force moment m.catalog (sound_after choose history))
