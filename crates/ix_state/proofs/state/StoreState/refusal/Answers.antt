use Rattle.std.proofs.Common.{◌∙◌}
use Rattle.ix_state.proofs.Judged.{cause_is}
use Rattle.ix_state.proofs.state.StoreState.refusal.Goals as goal

pub returns : goal.returns
returns c = λ choose history h s. c.cause.ensures ∙ cause_is choose history c.args.self.now c.args.command.now h s
