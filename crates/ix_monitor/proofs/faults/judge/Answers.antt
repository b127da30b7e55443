use Rattle.std.proofs.Common.{rules, sym}
use Rattle.ix_conf.specs.Lent.{item_entry}
use Rattle.ix_monitor.specs.Inputs as defs
use Rattle.ix_monitor.proofs.InputLemmas.{fault_free, fault_here, fault_none}
use Rattle.ix_monitor.proofs.faults.judge.Goals as goal

pub returns-in_default-clause-ok : goal.returns-in_default-clause-ok
returns-in_default-clause-ok c =
    fault_none c.args.limits.now c.args.inputs.now c.loop-at.at (sym c.in_default.ensures) _ c.loop-at.invariant

pub returns-in_err-judge_item-clause-err : goal.returns-in_err-judge_item-clause-err
returns-in_err-judge_item-clause-err c =
    let first : defs.Refuses (defs.first_fault c.args.limits.now c.args.inputs.now) c.in_err-judge_item.field-0.0 =
    fault_here c.args.limits.now c.args.inputs.now c.loop-at.at (item_entry c.in-Some.item) c.in_err-judge_item.field-0.0
    (sym c.in-Some.ensures) c.in_err-judge_item.ensures.err _ c.loop-at.invariant in
    search rules

pub loop-at-preserved : goal.loop-at-preserved
loop-at-preserved c =
    fault_free c.args.limits.now c.args.inputs.now c.loop-at.at (item_entry c.in-Some.item) (sym c.in-Some.ensures)
    c.in_ok-judge_item.ensures.ok _ c.loop-at.invariant
