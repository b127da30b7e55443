use Rattle.std.proofs.Common.{length, refl, sym, subst, ◌+◌, min}
use Rattle.std.proofs.lemmas.Result.{IfOk-from_err}
use Rattle.ix_pikevm.specs.Leaf.{text_of}
use Rattle.ix_pikevm.specs.Plans.{Knows}
use Rattle.ix_pikevm.specs.Seeks.{Turned}
use Rattle.ix_pikevm.proofs.TestLemmas.{counts-none}
use Rattle.ix_pikevm.proofs.AgreeLemmas.{agrees-refl}
use Rattle.ix_pikevm.proofs.SeekLemmas.{known-begun, carry-begun, turned}
use Rattle.ix_pikevm.proofs.seek.turn.Goals as goal

pub round-requires-clause-known : goal.round-requires-clause-known
round-requires-clause-known g c =
    known-begun (length c.args.plan.code.now) (length c.args.room.now.main.cells.items) c.args.start c.args.place c.args.to
    c.args.room.now.main.stack.items c.begin.new.stack.items
    c.in_ok-begin.ensures c.requires.start c.requires.known

pub returns-clause-turned : goal.returns-clause-turned
returns-clause-turned g c = λ from low carry.
    subst (Turned (Knows c.args.plan) c.args.plan.code.now (text_of c.args.input) c.args.start from (min (c.args.place + 1) c.args.to)
    c.args.place c.round.new.room.main.ready.items) (sym c.is_way.ensures)
    (turned (Knows c.args.plan) c.args.plan.code.now (text_of c.args.input) c.args.start from (min (c.args.place + 1) c.args.to)
    c.args.place (length c.args.plan.code.now)
    c.args.room.now.main.cells.items c.round.new.room.main.cells.items c.begin.new.stack.items c.round.new.room.main.ready.items
    c.in_ok-best.best
    (c.in_ok-best.ensures.rounds (text_of c.args.input) (agrees-refl (text_of c.args.input) c.args.place c.requires.within)
    (λ k ask got. refl))
    (known-begun (length c.args.plan.code.now) (length c.args.room.now.main.cells.items) c.args.start c.args.place c.args.to
    c.args.room.now.main.stack.items c.begin.new.stack.items
    c.in_ok-begin.ensures c.requires.start c.requires.known)
    (carry-begun (Knows c.args.plan) c.args.plan.code.now (text_of c.args.input) c.args.start from c.args.to c.args.place
    c.args.room.now.main.stack.items c.begin.new.stack.items c.in_ok-begin.ensures low carry))

pub returns-in_err-begin : goal.returns-in_err-begin
returns-in_err-begin g c = record {
  turned = IfOk-from_err c.from_residual.result _ c.from_residual.ensures.0;
  bytes = IfOk-from_err c.from_residual.result _ c.from_residual.ensures.0;
  known = IfOk-from_err c.from_residual.result _ c.from_residual.ensures.0;
  empty = IfOk-from_err c.from_residual.result _ c.from_residual.ensures.0;
  room = IfOk-from_err c.from_residual.result _ c.from_residual.ensures.0;
  counts = counts-none;
}

pub returns-in_err-best : goal.returns-in_err-best
returns-in_err-best g c = record {
  turned = IfOk-from_err c.from_residual-in_err-best.result _ c.from_residual-in_err-best.ensures.0;
  bytes = IfOk-from_err c.from_residual-in_err-best.result _ c.from_residual-in_err-best.ensures.0;
  known = IfOk-from_err c.from_residual-in_err-best.result _ c.from_residual-in_err-best.ensures.0;
  empty = IfOk-from_err c.from_residual-in_err-best.result _ c.from_residual-in_err-best.ensures.0;
  room = IfOk-from_err c.from_residual-in_err-best.result _ c.from_residual-in_err-best.ensures.0;
  counts = c.round.ensures.counts;
}
