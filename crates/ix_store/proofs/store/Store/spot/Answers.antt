use Rattle.ix_store.proofs.store.Store.spot.Goals as goal

pub returns : goal.returns
returns g c = λ choose h base k old st. c.spot.ensures choose h st.memory
