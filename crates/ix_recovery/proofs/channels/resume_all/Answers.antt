use Rattle.ix_recovery.specs.Recalled.{IsResumed}
use Rattle.ix_recovery.specs.declared.gathering.Carried.{Carried}
use Rattle.std.proofs.lemmas.List.{take_all}
use Rattle.std.specs.List.{AllZip}
use Rattle.std.proofs.Common.{List, subst}
use Rattle.ix_recovery.proofs.Failing.{memory_no_bad}
use Rattle.ix_recovery.proofs.Turns.{zip_more}
use Rattle.ix_recovery.proofs.channels.resume_all.Goals as goal

pub loop-one-preserved : goal.loop-one-preserved
loop-one-preserved c =
    zip_more (IsResumed c.args.props.now) c.args.carried.now c.loop-one.one-index c.one-item.result c.loop-one.channels.items
    c.push.new.self.items
    c.in_ok-open.open c.loop-one-test.true c.one-item.is c.loop-one.invariant c.in_ok-open.ensures.opened c.in_ok-push.ensures.items

pub returns-in_err-push-clause-bad : goal.returns-in_err-push-clause-bad
returns-in_err-push-clause-bad c = λ subject is. memory_no_bad c.from_residual-in_err-push.result subject
    c.from_residual-in_err-push.ensures.1 is

pub returns-clause-opened : goal.returns-clause-opened
returns-clause-opened c = subst (λ (given : List Carried). AllZip (IsResumed c.args.props.now) given c.loop-one.channels.items)
    (take_all c.loop-one.one-index c.args.carried.now c.loop-one-test.false) c.loop-one.invariant
