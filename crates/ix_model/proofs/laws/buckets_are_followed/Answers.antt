use Rattle.std.proofs.Common.{subst, sym}
use Rattle.ix_model.specs.Followed.{AreFollowed}
use Rattle.ix_model.specs.State.{State, slots_in, empty}
use Rattle.ix_model.specs.Step.{state_after}
use Rattle.ix_model.proofs.Following.{after_more, followed_after}
use Rattle.ix_model.proofs.Stepping.{sound_after}
use Rattle.ix_model.proofs.laws.buckets_are_followed.Goals as goal

pub returns : goal.returns
returns c = λ choose before later name.
    subst (λ (m : State). AreFollowed (slots_in (state_after choose before).catalog.indexes name) (slots_in m.catalog.indexes name))
    (sym (after_more choose empty before later))
    (followed_after choose (state_after choose before) later name (sound_after choose before))
