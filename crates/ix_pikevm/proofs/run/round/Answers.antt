use Rattle.std.proofs.Common.{length, sym, subst}
use Rattle.std.proofs.lemmas.Result.{IfOk-from_err}
use Rattle.ix_pikevm.specs.Leaf.{text_of}
use Rattle.ix_pikevm.specs.Looks.{AreLooks}
use Rattle.ix_pikevm.specs.Programs.{AsksFit}
use Rattle.ix_pikevm.proofs.LookLemmas.{looks-real}
use Rattle.ix_pikevm.proofs.run.round.Goals as goal

pub returns-clause-rounds : goal.returns-clause-rounds
returns-clause-rounds g c = λ real ag sights rows blank mean rank m kn goal head.
    c.in_ok-after.ensures.rounds real ag rows blank mean rank m
    (subst (λ l. AreLooks c.args.plan.code.now l rows real c.args.place) (sym c.deref.ensures.value)
    (looks-real c.args.plan.asks.now c.args.plan.inner.now c.args.plan.code.now c.look_all.new.looks.items rows (text_of c.args.input) real
    c.args.place
    c.requires.plan.asked kn.asks (c.in_ok-look_all.ensures.looks rows kn.asks kn.same) sights)) goal head

pub returns-clause-room : goal.returns-clause-room
returns-clause-room g c = (
  c.in_ok-after.ensures.marks,
  c.in_ok-look_all.ensures.marks,
  subst (AsksFit c.args.plan.asks.now (length c.args.plan.inner.now)) (sym c.in_ok-look_all.ensures.all) c.requires.room.2,
)

pub returns-in_err-look_all : goal.returns-in_err-look_all
returns-in_err-look_all g c = record {
  rounds = IfOk-from_err c.from_residual.result _ c.from_residual.ensures.0;
  bytes = IfOk-from_err c.from_residual.result _ c.from_residual.ensures.0;
  known = IfOk-from_err c.from_residual.result _ c.from_residual.ensures.0;
  empty = IfOk-from_err c.from_residual.result _ c.from_residual.ensures.0;
  room = IfOk-from_err c.from_residual.result _ c.from_residual.ensures.0;
  grown = IfOk-from_err c.from_residual.result _ c.from_residual.ensures.0;
  counts = c.look_all.ensures.counts;
}

pub returns-in_err-after : goal.returns-in_err-after
returns-in_err-after g c = record {
  rounds = IfOk-from_err c.from_residual-in_err-after.result _ c.from_residual-in_err-after.ensures.0;
  bytes = IfOk-from_err c.from_residual-in_err-after.result _ c.from_residual-in_err-after.ensures.0;
  known = IfOk-from_err c.from_residual-in_err-after.result _ c.from_residual-in_err-after.ensures.0;
  empty = IfOk-from_err c.from_residual-in_err-after.result _ c.from_residual-in_err-after.ensures.0;
  room = IfOk-from_err c.from_residual-in_err-after.result _ c.from_residual-in_err-after.ensures.0;
  grown = IfOk-from_err c.from_residual-in_err-after.result _ c.from_residual-in_err-after.ensures.0;
  counts = c.look_all.ensures.counts;
}
