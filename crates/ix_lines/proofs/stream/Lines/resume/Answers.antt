use Rattle.std.proofs.Common.{◌∙◌, ap, sym, true}
use Rattle.ix_lines.specs.Breaks.{breaks_by}
use Rattle.ix_lines.specs.Lines.{effective}
use Rattle.ix_lines.specs.Carry.{carry_of, dated_of}
use Rattle.ix_lines.specs.Pending.{dated_in}
use Rattle.ix_lines.specs.Walk.{walk_of}
use Rattle.ix_lines.proofs.CarryLemmas.{resumed}
use Rattle.ix_lines.proofs.stream.Lines.resume.Goals as goal

pub invariant_of-result : goal.invariant_of-result
invariant_of-result c =
    (c.in_ok-breaker.ensures.stable, c.effective.ensures.bound, c.in_ok-pending.ensures.paired, c.in_ok-breaker.ensures.attends)

pub returns-clause-stands : goal.returns-clause-stands
returns-clause-stands c = λ stream is.
    let p = c.in_ok-breaker.breaker.pattern in
    let t = c.effective.result in
    let pending = c.in_ok-pending.pending in
    let carry = is ∙ ap (λ q. carry_of (breaks_by q) (effective c.args.truncate) stream) (sym c.in_ok-breaker.ensures.is)
    ∙ ap (λ n. carry_of (breaks_by p) n stream) (sym c.effective.ensures.is) in
    resumed (breaks_by p) t stream (dated_in pending) pending.before c.args.parts c.of_line.result carry c.in_ok-pending.ensures.before
    (c.in_ok-pending.ensures.dated ∙ ap dated_of c.as_slice.ensures)
    (c.of_line.ensures t (walk_of (breaks_by p) true stream).rest)
