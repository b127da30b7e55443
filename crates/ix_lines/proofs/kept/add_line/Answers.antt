use Rattle.std.proofs.Common.{length, ap, arith}
use Rattle.std.proofs.lemmas.Result.{IfOk-from_err}
use Rattle.ix_lines.proofs.KeptLemmas.{short-pushed}
use Rattle.ix_lines.proofs.kept.add_line.Goals as goal

pub returns-in_err-bytes-clause-ok : goal.returns-in_err-bytes-clause-ok
returns-in_err-bytes-clause-ok c = IfOk-from_err c.from_residual.result _ c.from_residual.ensures.0

pub returns-in_err-bytes-clause-short : goal.returns-in_err-bytes-clause-short
returns-in_err-bytes-clause-short c = λ short. short

pub returns-clause-err : goal.returns-clause-err
returns-clause-err c = c.push.ensures.err

pub returns-clause-short : goal.returns-clause-short
returns-clause-short c =
    short-pushed c.push.result c.args.out.now c.push.new.self _ c.push.ensures.ok c.push.ensures.err
    (omega (arith, ap length c.in_ok-bytes.ensures, c.cut-bytes.ensures.bound))
