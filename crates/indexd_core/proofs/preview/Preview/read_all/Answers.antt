use Rattle.std.proofs.Common.{◌≤◌, ◌++◌, ℕ, List, length, take, arith, ◌∙◌}
use Rattle.std.proofs.lemmas.List.{length-append, length-take, length-take-le}
use Rattle.std.proofs.lemmas.Result.{err_from_is_err_and}
use Rattle.indexd_core.specs.Sides.{side}
use Rattle.indexd_core.proofs.PreviewLemmas.{run-stops}
use Rattle.indexd_core.proofs.preview.Preview.read_all.Goals as goal

pub returns-in_err-n-clause-stopped : goal.returns-in_err-n-clause-stopped
returns-in_err-n-clause-stopped g c =
    let p = err_from_is_err_and c.from_residual.result c.from_residual.ensures.1 in
    rw (p.1, p.2) (λ prepared holds.
    let came = c.loop-taken.invariant.came prepared holds in
    run-stops c.in_err-n.field-0.0 prepared c.loop-taken.self c.args.self.now.moment came.0
    (side (g.S.Source.faults c.args.input.now) (g.S.Source.left c.args.input.now))
    (side (g.S.Source.faults c.loop-taken.input) (g.S.Source.left c.loop-taken.input))
    (side (g.S.Source.faults c.take_block.new.input) (g.S.Source.left c.take_block.new.input))
    (side (g.W.Sink.faults c.args.output.now) (g.W.Sink.given c.args.output.now))
    (side (g.W.Sink.faults c.loop-taken.output) (g.W.Sink.given c.loop-taken.output))
    (side (g.W.Sink.faults c.take_block.new.output) (g.W.Sink.given c.take_block.new.output))
    c.loop-taken.invariant.moment (omega (arith, came.1)) c.loop-taken.invariant.read_later c.loop-taken.invariant.written_later
    came.2 c.in_err-n.ensures.stopped)

pub returns-then-n-eq0-clause-all : goal.returns-then-n-eq0-clause-all
returns-then-n-eq0-clause-all g c = λ prepared holds.
    let came = c.loop-taken.invariant.came prepared holds in
    record {
      taken = came.0 ++ take c.in_ok-n.n c.take_block.new.block;
      at = c.in_ok-n.ensures.taken.1.at prepared (side (g.S.Source.faults c.args.input.now) (g.S.Source.left c.args.input.now))
          (side (g.W.Sink.faults c.args.output.now) (g.W.Sink.given c.args.output.now)) came.0 came.2;
      end = (
        let none : length (take c.in_ok-n.n c.take_block.new.block) ≤ 0 = omega (arith, length-take c.in_ok-n.n c.take_block.new.block) in
            omega (arith, length-append came.0 (take c.in_ok-n.n c.take_block.new.block), came.1),
        c.in_ok-n.ensures.end c.if-n-eq0.true (omega (
          arith,
          c.min-room.ensures,
          length-take-le c.min-room.result c.loop-taken.block (omega (arith, c.min-room.ensures)),
        )),
      );
    }

pub loop-taken-preserved : goal.loop-taken-preserved
loop-taken-preserved g c = record {
  within = omega (arith, c.in_ok-n.ensures.taken.0, length-take c.min-room.result c.loop-taken.block, c.min-room.ensures);
  came = λ prepared holds.
      let came = c.loop-taken.invariant.came prepared holds in
      let more : List ℕ = take c.in_ok-n.n c.take_block.new.block in
      let fits : c.in_ok-n.n ≤ length c.take_block.new.block = omega (arith, c.in_ok-n.ensures.taken.0, c.take_block.auto.block) in (
        came.0 ++ more,
        omega (arith, length-append came.0 more, length-take-le c.in_ok-n.n c.take_block.new.block fits, came.1),
        c.in_ok-n.ensures.taken.1.at prepared (side (g.S.Source.faults c.args.input.now) (g.S.Source.left c.args.input.now))
            (side (g.W.Sink.faults c.args.output.now) (g.W.Sink.given c.args.output.now)) came.0 came.2,
      );
  moment = c.in_ok-n.ensures.taken.1.moment ∙ c.loop-taken.invariant.moment;
  read_later = omega (arith, c.loop-taken.invariant.read_later, c.take_block.ensures.read_later);
  written_later = omega (arith, c.loop-taken.invariant.written_later, c.take_block.ensures.written_later);
}

pub returns-clause-all : goal.returns-clause-all
returns-clause-all g c = λ prepared holds.
    let came = c.loop-taken.invariant.came prepared holds in
    record { taken = came.0; at = came.2; end = omega (arith, came.1, c.loop-taken.invariant.within) }
