use Rattle.std.proofs.Common.{sym, ◌∙◌}
use Rattle.ix_model.specs.Step.{state_after}
use Rattle.ix_apply.proofs.Refusing.{refused_is, full_is, no_number, has_number}
use Rattle.ix_apply.proofs.state_machine.hindrance.Goals as goal

pub returns-in-Some-clause-refused : goal.returns-in-Some-clause-refused
returns-in-Some-clause-refused c = λ choose history h.
    refused_is choose c.args.drawn (state_after choose history) c.args.order.now c.in-Some.refusal
    (sym (c.in-Some.ensures choose history h.channels h.storage))

pub returns-then-is_spent-clause-refused : goal.returns-then-is_spent-clause-refused
returns-then-is_spent-clause-refused c = λ choose history h.
    full_is choose c.args.drawn (state_after choose history) c.args.order.now
    (sym (c.in_default.ensures choose history h.channels h.storage))
    (λ both. no_number c.args.drawn c.args.order.now (sym c.is_spent.ensures ∙ c.if-is_spent.true) both.1)

pub returns-clause-free : goal.returns-clause-free
returns-clause-free c = record {
  no_cause = λ choose history h. sym (c.in_default.ensures choose history h.channels h.storage);
  number = has_number c.args.drawn c.args.order.now (sym c.is_spent.ensures ∙ c.if-is_spent.false);
}
