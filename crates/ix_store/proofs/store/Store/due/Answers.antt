use Rattle.std.proofs.Common.{◌∙◌}
use Rattle.ix_store.proofs.Numbered.{due_is}
use Rattle.ix_store.proofs.store.Store.due.Goals as goal

pub returns : goal.returns
returns g c = λ choose h base k old st. c.makes_due.ensures
    ∙ due_is _ _ c.saturating_sub-numbered.result _ h base k st.from_base st.counted c.saturating_sub-numbered.ensures
