use Rattle.ix_state.proofs.Choosing.{can_cut}
use Rattle.ix_state.proofs.Loaded.{loaded_after}
use Rattle.ix_state.proofs.choosers.chosen_lives_join.Goals as goal
use Rattle.ix_model.specs.Given.{resolved}
use Rattle.ix_model.specs.Step.{state_after}

pub returns-clause-chosen : goal.returns-clause-chosen
returns-clause-chosen c = λ choose history meta chooser given.
    can_cut c.settings_are_usable.ensures choose (state_after choose history).force meta chooser (loaded_after choose history given)

pub returns-clause-joined : goal.returns-clause-joined
returns-clause-joined c = λ choose before history name meta moment chooser given none spares.
    let force = (state_after choose before).force in
    let can = can_cut c.settings_are_usable.ensures choose force (resolved force meta) chooser (loaded_after choose before given) in
    c.lives_join.ensures choose before history name meta moment none can.sound can.usable spares
