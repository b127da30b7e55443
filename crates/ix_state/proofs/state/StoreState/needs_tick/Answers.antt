use Rattle.std.proofs.Common.{◌∙◌}
use Rattle.ix_state.proofs.Judged.{needs_is}
use Rattle.ix_state.proofs.state.StoreState.needs_tick.Goals as goal

pub returns : goal.returns
returns c = λ choose history h s. c.is_due.ensures ∙ needs_is choose history c.args.self.now c.args.order.now h s
