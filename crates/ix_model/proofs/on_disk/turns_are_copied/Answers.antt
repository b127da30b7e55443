use Rattle.ix_model.specs.State.{State}
use Rattle.ix_model.specs.Step.{state_after}
use Rattle.ix_model.proofs.Ascending.{in_order_after, keeps_ascending}
use Rattle.ix_model.proofs.Renewing.{apart_after}
use Rattle.ix_model.proofs.Stepping.{sound_after}
use Rattle.ix_model.proofs.Areas.{apart_from_logs}
use Rattle.ix_model.proofs.TurnedFiles.{turn_copied}
use Rattle.ix_model.proofs.on_disk.turns_are_copied.Goals as goal

pub returns : goal.returns
returns c = λ choose history moment old none.
    (let m : State = state_after choose history in
    let l = (in_order_after choose history).indexes in
    turn_copied m.force moment m.catalog (sound_after choose history) l (keeps_ascending.ticks m.force moment m.catalog l)
    (apart_after choose history) (apart_from_logs choose history) old none)
