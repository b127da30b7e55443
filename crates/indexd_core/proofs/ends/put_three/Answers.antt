use Rattle.std.proofs.Common.{rules, ◌≤◌, arith}
use Rattle.ix_base.specs.Faults.{Rose}
use Rattle.ix_base.proofs.ToldLemmas.{then_written}
use Rattle.indexd_core.specs.Sides.{side}
use Rattle.indexd_core.proofs.StoredLemmas.{second_failed, third_said}
use Rattle.indexd_core.proofs.ends.put_three.Goals as goal

pub returns-in-Err-put-clause-said : goal.returns-in-Err-put-clause-said
returns-in-Err-put-clause-said g c =
    let rose : Rose (g.W.Sink.faults c.put.new.self) (g.W.Sink.faults c.put-2.new.self) = search rules in
    second_failed c.args.first.now c.args.second.now c.args.third.now
    (side (g.W.Sink.faults c.args.output.now) (g.W.Sink.given c.args.output.now))
    (side (g.W.Sink.faults c.put.new.self) (g.W.Sink.given c.put.new.self))
    (side (g.W.Sink.faults c.put-2.new.self) (g.W.Sink.given c.put-2.new.self))
    c.put.ensures.cause.later c.in_default.ensures.written rose c.in-Err-put.ensures.begun

pub returns-clause-said : goal.returns-clause-said
returns-clause-said g c =
    let later : g.W.Sink.faults c.args.output.now ≤ g.W.Sink.faults c.put-2.new.self =
    omega (arith, c.put.ensures.cause.later, c.put-2.ensures.cause.later) in
    third_said c.args.first.now c.args.second.now c.args.third.now
    (side (g.W.Sink.faults c.args.output.now) (g.W.Sink.given c.args.output.now))
    (side (g.W.Sink.faults c.put-2.new.self) (g.W.Sink.given c.put-2.new.self))
    (side (g.W.Sink.faults c.put_last.new.output) (g.W.Sink.given c.put_last.new.output))
    later (then_written c.in_default.ensures.written c.in_default-put.ensures.written) c.put_last.ensures.said
