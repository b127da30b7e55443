use Rattle.ix_store.proofs.store.Store.kept.Goals as goal

pub returns : goal.returns
returns g c = λ choose h base k old st. c.kept.ensures choose h st.memory
