use Rattle.ix_store.proofs.store.Store.drawn.Goals as goal

pub returns : goal.returns
returns g c = λ choose h base k old st. st.counted.drawn_are
