use Rattle.ix_store.proofs.store.Store.has_channel.Goals as goal

pub returns : goal.returns
returns g c = λ choose h base k old st. c.has_channel.ensures choose h st.memory
