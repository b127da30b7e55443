use Rattle.std.proofs.Common.{◌∙◌, ap, sym, length, List, arith}
use Rattle.ix_lines.specs.Moments.{moments_of}
use Rattle.ix_lines.specs.declared.moments.Run.{Run}
use Rattle.ix_lines.proofs.stream.Lines.new.Goals as goal

pub invariant_of-result : goal.invariant_of-result
invariant_of-result c =
    let none = c.new-3.ensures.bytes in (
      c.in_ok-new.ensures.stable,
      c.effective.ensures.bound,
      ap length none ∙ sym (ap (λ (runs : List Run). length (moments_of runs)) c.new-3.ensures.runs),
      record {
        goes_on = c.in_ok-new.ensures.goes_on c.new-3.result.before c.new-3.result.bytes;
        begun = λ some. absurd (omega (arith, some, ap length none));
      },
    )
