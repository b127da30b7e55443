use Rattle.std.proofs.Common.{subst, sym}
use Rattle.ix_model.specs.Files.{Renews}
use Rattle.ix_model.specs.State.{State, empty}
use Rattle.ix_model.specs.Step.{state_after}
use Rattle.ix_model.proofs.Following.{after_more}
use Rattle.ix_model.proofs.Renewing.{apart_after, renews_after}
use Rattle.ix_model.proofs.Stepping.{sound_after}
use Rattle.ix_model.proofs.laws.files_are_new.Goals as goal

pub returns-clause-apart : goal.returns-clause-apart
returns-clause-apart c = apart_after

pub returns-clause-renew : goal.returns-clause-renew
returns-clause-renew c = λ choose before later.
    subst (λ (m : State). Renews (state_after choose before).catalog m.catalog) (sym (after_more choose empty before later))
    (renews_after choose (state_after choose before) later (sound_after choose before))
