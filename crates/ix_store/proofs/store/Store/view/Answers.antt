use Rattle.ix_store.proofs.store.Store.view.Goals as goal

pub returns : goal.returns
returns g c = λ choose h base k old st. c.view.ensures.history choose h st.memory
