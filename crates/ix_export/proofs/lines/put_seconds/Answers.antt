use Rattle.std.proofs.Common.{List, ℕ, ◌∷◌, ◌%◌, ◌∙◌, subst}
use Rattle.ix_export.specs.EventLine.{six_digits}
use Rattle.ix_base.specs.Told.{HasWritten, HasBegun}
use Rattle.ix_base.proofs.ToldLemmas.{begun_of_more, then_begun, then_written, on_err_always}
use Rattle.ix_export.proofs.lines.put_seconds.Goals as goal

pub returns-in_err-put-2-clause-begun : goal.returns-in_err-put-2-clause-begun
returns-in_err-put-2-clause-begun g c =
    let P : List ℕ → Type 0 = λ l. HasWritten l (g.W.Sink.given c.args.out.now) (g.W.Sink.given c.put.new.self) in
    on_err_always c.from_residual-in_err-put-2.result
    (then_begun (subst P (c.as_bytes.ensures.value ∙ c.format.ensures.text) c.in_ok-put.ensures.written)
    (begun_of_more (six_digits (c.args.micros % 1000000)) c.in_err-put-2.ensures.begun))

pub returns-in_err-put-3-clause-begun : goal.returns-in_err-put-3-clause-begun
returns-in_err-put-3-clause-begun g c =
    let P : List ℕ → Type 0 = λ l. HasWritten l (g.W.Sink.given c.args.out.now) (g.W.Sink.given c.put.new.self) in
    let Q : List ℕ → Type 0 = λ l. HasBegun l (g.W.Sink.given c.put-2.new.self) (g.W.Sink.given c.put-3.new.self) in
    on_err_always c.from_residual-in_err-put-3.result
    (then_begun (subst P (c.as_bytes.ensures.value ∙ c.format.ensures.text) c.in_ok-put.ensures.written)
    (then_begun c.in_ok-put-2.ensures.written (subst Q c.six_digits.ensures c.in_err-put-3.ensures.begun)))

pub returns-in_err-put-clause-begun : goal.returns-in_err-put-clause-begun
returns-in_err-put-clause-begun g c =
    let P : List ℕ → Type 0 = λ l. HasBegun l (g.W.Sink.given c.args.out.now) (g.W.Sink.given c.put.new.self) in
    on_err_always c.from_residual.result
    (begun_of_more (46 ∷ six_digits (c.args.micros % 1000000))
    (subst P (c.as_bytes.ensures.value ∙ c.format.ensures.text) c.in_err-put.ensures.begun))

pub returns-clause-written : goal.returns-clause-written
returns-clause-written g c =
    let P : List ℕ → Type 0 = λ l. HasWritten l (g.W.Sink.given c.args.out.now) (g.W.Sink.given c.put.new.self) in
    let Q : List ℕ → Type 0 = λ l. HasWritten l (g.W.Sink.given c.put-2.new.self) (g.W.Sink.given c.put-3.new.self) in
    then_written (subst P (c.as_bytes.ensures.value ∙ c.format.ensures.text) c.in_ok-put.ensures.written)
    (then_written c.in_ok-put-2.ensures.written (subst Q c.six_digits.ensures c.in_ok-put-3.ensures.written))
