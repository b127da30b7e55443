use Rattle.ix_model.specs.State.{State}
use Rattle.ix_model.specs.Step.{state_after}
use Rattle.ix_model.proofs.Ascending.{in_order_after}
use Rattle.ix_model.proofs.Stepping.{sound_after}
use Rattle.ix_model.proofs.ThawedShelves.{thaws_same}
use Rattle.ix_model.proofs.on_disk.thaws_are_shelved.Goals as goal

pub returns : goal.returns
returns c = λ choose history index id slot e found entry thaws.
    (let m : State = state_after choose history in
    thaws_same m.force index id m.catalog slot e (sound_after choose history) (in_order_after choose history).indexes found entry thaws)
