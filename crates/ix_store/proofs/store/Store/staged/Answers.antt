use Rattle.ix_store.proofs.store.Store.staged.Goals as goal

pub returns : goal.returns
returns g c = λ choose h base k old st. st.counted.waiting
