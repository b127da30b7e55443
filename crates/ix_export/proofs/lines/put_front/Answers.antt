use Rattle.std.proofs.Common.{◌≡◌, ◌≤◌, List, ℕ, get_or, take, subst, arith, false, sym}
use Rattle.std.specs.List.{prefix_len}
use Rattle.ix_export.specs.EventLine.{is_plain}
use Rattle.ix_base.specs.Told.{HasBegun}
use Rattle.ix_base.proofs.ToldLemmas.{on_err_always}
use Rattle.ix_export.proofs.FieldLemmas.{begun-plain, begun-front, plain-stops, field-first, written-plain}
use Rattle.ix_export.proofs.lines.put_front.Goals as goal

pub returns-in_err-put-clause-begun : goal.returns-in_err-put-clause-begun
returns-in_err-put-clause-begun g c =
    let P : ℕ → Type 0 = λ n. HasBegun (take n c.args.bytes.now) (g.W.Sink.given c.args.out.now) (g.W.Sink.given c.put.new.self) in
    on_err_always c.from_residual.result (begun-plain c.args.bytes.now (subst P c.plain_length-plain.ensures c.in_err-put.ensures.begun))

pub returns-then-plain-gt0-clause-written : goal.returns-then-plain-gt0-clause-written
returns-then-plain-gt0-clause-written g c =
    written-plain c.plain_length-plain.result c.args.bytes.now c.plain_length-plain.ensures c.in_ok-put.ensures.written

pub returns-in_err-put_escape-clause-begun : goal.returns-in_err-put_escape-clause-begun
returns-in_err-put_escape-clause-begun g c =
    let none : prefix_len is_plain c.args.bytes.now ≤ 0 = omega (arith, c.plain_length-plain.ensures) in
    let stops : is_plain (get_or c.args.bytes.now 0 0) ≡ false = plain-stops c.args.bytes.now c.requires none in
    let P : List ℕ → Type 0 = λ l. HasBegun l (g.W.Sink.given c.args.out.now) (g.W.Sink.given c.put_escape.new.out) in
    on_err_always c.from_residual-in_err-put_escape.result
    (begun-front 1 c.args.bytes.now (subst P (sym (field-first c.args.bytes.now c.requires stops)) c.in_err-put_escape.ensures.begun))
