use Rattle.std.proofs.Common.{false, List, sym, ap, subst}
use Rattle.std.specs.Prelude.{Err}
use Rattle.ix_model.specs.Bounds.{IsRefused}
use Rattle.ix_model.specs.Given.{Chooser}
use Rattle.ix_model.specs.Step.{state_after}
use Rattle.ix_model.specs.declared.answers.Refusal.{Refusal}
use Rattle.ix_model.specs.declared.commands.TimedCommand.{TimedCommand}
use Rattle.ix_replay.specs.Fits.{fits}
use Rattle.ix_apply.specs.Next.{IsReady}
use Rattle.ix_apply.specs.declared.next.Next.{Next}
use Rattle.ix_store.specs.Making.{IsMade}
use Rattle.ix_store.specs.declared.memory.Made.{Made}
use Rattle.ix_apply.proofs.Answering.{made_is}
use Rattle.ix_apply.proofs.Refusing.{fault_is}
use Rattle.ix_apply.proofs.state_machine.make_order.Goals as goal

pub returns-in-Ok-clause-made : goal.returns-in-Ok-clause-made
returns-in-Ok-clause-made c = λ choose history drawn f number.
    (let both = c.in-Ok.ensures.done choose history f in
    subst (λ (m : Made Next). IsMade (λ (x : Chooser) (h : List TimedCommand) (next : Next). IsReady x h c.args.held.now next) fits choose
    history c.args.order drawn m) (sym c.made_of.ensures)
    (made_is choose history c.args.order c.args.held.now drawn c.weight_of-weight.result c.in-Ok.pair f number both.0 both.1))

pub returns-in-Err-clause-refused : goal.returns-in-Err-clause-refused
returns-in-Err-clause-refused c = λ choose history drawn f.
    subst (λ (r : Refusal). IsRefused choose false drawn (state_after choose history) c.args.order r) (sym c.refusal_of.ensures)
    (fault_is choose history c.args.order c.args.held.now drawn c.in-Err.fault f (λ full. c.in-Err.ensures.full (ap (λ e. Err e) full)))
