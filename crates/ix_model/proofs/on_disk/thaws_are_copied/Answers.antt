use Rattle.ix_model.specs.State.{State}
use Rattle.ix_model.specs.Step.{state_after}
use Rattle.ix_model.proofs.Ascending.{in_order_after, keeps_ascending}
use Rattle.ix_model.proofs.Renewing.{apart_after}
use Rattle.ix_model.proofs.Stepping.{sound_after}
use Rattle.ix_model.proofs.ThawedFiles.{thaw_copied}
use Rattle.ix_model.proofs.on_disk.thaws_are_copied.Goals as goal

pub returns : goal.returns
returns c = λ choose history index id slot e archive old at entry archived thaws none.
    (let m : State = state_after choose history in
    thaw_copied m.catalog index id slot e archive old (sound_after choose history) (apart_after choose history)
    (keeps_ascending.thaws index id m.catalog (in_order_after choose history).indexes) at entry archived thaws none)
