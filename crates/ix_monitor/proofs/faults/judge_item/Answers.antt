use Rattle.std.proofs.Common.{Option, IfErr, subst, sym, arith}
use Rattle.ix_conf.specs.Lent.{item_entry}
use Rattle.ix_monitor.specs.declared.faults.InputFault.{InputFault}
use Rattle.ix_monitor.specs.Inputs as defs
use Rattle.ix_monitor.proofs.InputLemmas.{fault_of_value}
use Rattle.ix_monitor.proofs.faults.judge_item.Goals as goal

pub returns-in-len1-up-clause-err : goal.returns-in-len1-up-clause-err
returns-in-len1-up-clause-err c =
    let P : Option InputFault → Type 0 = λ o. IfErr c.judge_value.result (λ fault. defs.Refuses o fault) in
    subst P (sym (fault_of_value c.args.limits.now (item_entry c.args.item.now) c.args.item.now.key.now
    (omega (arith, c.in-len1-up.len_at_least)))) c.judge_value.ensures.err
