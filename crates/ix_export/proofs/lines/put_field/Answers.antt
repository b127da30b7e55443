use Rattle.std.proofs.Common.{◌≡◌, ◌-◌, List, ℕ, take, drop, length, subst, ap, arith}
use Rattle.std.proofs.lemmas.List.{take_all, length-drop}
use Rattle.ix_export.specs.EventLine.{field}
use Rattle.ix_base.specs.Told.{HasWritten, HasBegun}
use Rattle.ix_base.proofs.ToldLemmas.{on_err_always}
use Rattle.ix_export.proofs.FieldLemmas.{written-next, begun-next}
use Rattle.ix_export.proofs.lines.put_field.Goals as goal

pub returns-in_err-at-clause-begun : goal.returns-in_err-at-clause-begun
returns-in_err-at-clause-begun g c =
    let rest : List ℕ = drop c.loop-at.at c.args.bytes.now in
    let whole : take (length c.args.bytes.now - c.loop-at.at) rest ≡ rest =
    take_all (length c.args.bytes.now - c.loop-at.at) rest (omega (arith, length-drop c.loop-at.at c.args.bytes.now)) in
    let P : List ℕ → Type 0 = λ l. HasBegun (field l) (g.W.Sink.given c.loop-at.out) (g.W.Sink.given c.put_front.new.out) in
    on_err_always c.from_residual.result (begun-next c.loop-at.at c.args.bytes.now c.loop-at.invariant.written
    (subst P whole c.in_err-at.ensures.begun))

pub loop-at-preserved : goal.loop-at-preserved
loop-at-preserved g c =
    let rest : List ℕ = drop c.loop-at.at c.args.bytes.now in
    let whole : take (length c.args.bytes.now - c.loop-at.at) rest ≡ rest =
    take_all (length c.args.bytes.now - c.loop-at.at) rest (omega (arith, length-drop c.loop-at.at c.args.bytes.now)) in
    let P : List ℕ → Type 0 = λ l. HasWritten (field (take c.in_ok-at.field-0 l)) (g.W.Sink.given c.loop-at.out)
    (g.W.Sink.given c.put_front.new.out) in
    record {
      within = omega (arith, c.in_ok-at.ensures.within, length-drop c.loop-at.at c.args.bytes.now, ap length whole);
      written = written-next c.loop-at.at c.in_ok-at.field-0 c.args.bytes.now c.loop-at.invariant.written
          (subst P whole c.in_ok-at.ensures.written);
      later = omega (arith, c.loop-at.invariant.later, c.put_front.ensures.cause.later);
    }
