use Rattle.std.proofs.Common.{subst, sym}
use Rattle.ix_model.specs.Ledger.{AreBefore}
use Rattle.ix_model.specs.Shown.{whole_ledger}
use Rattle.ix_model.specs.State.{State, empty}
use Rattle.ix_model.specs.Step.{state_after}
use Rattle.ix_model.proofs.Following.{after_more}
use Rattle.ix_model.proofs.Ledgers.{grows_after, ticks_alone}
use Rattle.ix_model.proofs.Singles.{whole_after, ticks_in_order}
use Rattle.ix_model.proofs.laws.ledger_is_what_froze.Goals as goal

pub returns-clause-whole : goal.returns-clause-whole
returns-clause-whole c = whole_after

pub returns-clause-grow : goal.returns-clause-grow
returns-clause-grow c = λ choose before later.
    subst (λ (m : State). AreBefore (whole_ledger (state_after choose before)) (whole_ledger m))
    (sym (after_more choose empty before later))
    (grows_after choose (state_after choose before) later)

pub returns-clause-order : goal.returns-clause-order
returns-clause-order c = ticks_in_order

pub returns-clause-alone : goal.returns-clause-alone
returns-clause-alone c = ticks_alone
