use Rattle.ix_apply.proofs.state_machine.StateMachineStoreMemory.install.Goals as goal

pub returns : goal.returns
returns c = λ choose history w. record { state = w.ready c.install.new.held c.install.ensures; first = w.later }
