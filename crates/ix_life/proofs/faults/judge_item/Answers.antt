use Rattle.std.proofs.Common.{◌≡◌, Option, None, IfErr, OnOk, subst, sym}
use Rattle.ix_conf.specs.Lent.{item_entry}
use Rattle.ix_life.specs.declared.faults.LimitFault.{LimitFault}
use Rattle.ix_life.specs.Limits as defs
use Rattle.ix_life.proofs.LimitsLemmas.{fault_of_stanza, fault_of_value}
use Rattle.ix_life.proofs.faults.judge_item.Goals as goal

pub returns-in-empty : goal.returns-in-empty
returns-in-empty c =
    let same = sym (fault_of_stanza c.args.indexes.now (item_entry c.args.item.now) c.args.item.now.key.now c.in-empty.len_below) in
    record {
      ok = subst (λ (o : Option LimitFault). OnOk c.judge_stanza.result (o ≡ None)) same c.judge_stanza.ensures.ok;
      err = subst (λ (o : Option LimitFault). IfErr c.judge_stanza.result (λ fault. defs.Refuses o fault)) same c.judge_stanza.ensures.err;
    }

pub returns-in-len1-up : goal.returns-in-len1-up
returns-in-len1-up c =
    let same = sym (fault_of_value c.args.indexes.now (item_entry c.args.item.now) c.args.item.now.key.now c.in-len1-up.len_at_least) in
    record {
      ok = subst (λ (o : Option LimitFault). OnOk c.judge_value.result (o ≡ None)) same c.judge_value.ensures.ok;
      err = subst (λ (o : Option LimitFault). IfErr c.judge_value.result (λ fault. defs.Refuses o fault)) same c.judge_value.ensures.err;
    }
