use Rattle.std.proofs.Common.{◌∙◌, List, ap}
use Rattle.ix_base.specs.declared.events.Spot.{Spot}
use Rattle.ix_model.specs.State.{spot_path}
use Rattle.ix_catalog.specs.Lists.{find}
use Rattle.ix_apply.proofs.state_machine.StateMachineStoreMemory.spot.Goals as goal

pub returns : goal.returns
returns c = λ choose history h.
    c.find_spot.ensures ∙ ap (λ (spots : List Spot). find spot_path c.args.path.now spots) (c.as_slice.ensures.value
    ∙ h.state.channels.spots)
