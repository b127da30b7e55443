use Rattle.std.proofs.Common.{refl}
use Rattle.ix_model.specs.Step.{state_after}
use Rattle.ix_apply.proofs.Opened.{view_is}
use Rattle.ix_apply.proofs.state_machine.StateMachineStoreMemory.view.Goals as goal

pub returns : goal.returns
returns c = record {
  shows = refl;
  history = λ choose history h. view_is choose history c.args.self.now.held h.state.storage;
}
