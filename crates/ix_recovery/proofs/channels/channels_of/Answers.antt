use Rattle.std.proofs.Common.{sym, subst}
use Rattle.std.proofs.lemmas.Result.{IfOk-weaker}
use Rattle.ix_recovery.specs.Recalled.{AreSorted, carried_name}
use Rattle.ix_recovery.proofs.channels.channels_of.Goals as goal

pub returns : goal.returns
returns c =
    let sorted = c.as_slice.result.now in
    let in_order : AreSorted carried_name c.args.given.items sorted =
    subst (AreSorted carried_name c.args.given.items) (sym c.as_slice.ensures.value) c.channels_by_name-sorted.ensures in
    record {
      opened = IfOk-weaker c.resume_all.result _ _ (λ channels zipped. record { sorted = sorted; in_order = in_order; resumed = zipped })
          c.resume_all.ensures.opened;
      bad = λ subject is. record { sorted = sorted; in_order = in_order; bad = c.resume_all.ensures.bad subject is };
    }
