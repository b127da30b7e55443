use Rattle.ix_model.specs.State.{State}
use Rattle.ix_model.specs.Step.{state_after}
use Rattle.ix_model.proofs.Ascending.{in_order_after}
use Rattle.ix_model.proofs.Stepping.{sound_after}
use Rattle.ix_model.proofs.RolledShelves.{rolls_same}
use Rattle.ix_model.proofs.on_disk.rolls_are_shelved.Goals as goal

pub returns : goal.returns
returns c = λ choose history index.
    (let m : State = state_after choose history in
    rolls_same m.force index m.catalog (sound_after choose history) (in_order_after choose history).indexes)
