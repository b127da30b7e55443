use Rattle.ix_store.proofs.store.Store.limits.Goals as goal

pub returns : goal.returns
returns g c = λ choose h base k old st. c.limits.ensures choose h st.memory
