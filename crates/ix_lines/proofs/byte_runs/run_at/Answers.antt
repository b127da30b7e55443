use Rattle.ix_pattern.specs.Piece.{in_set}
use Rattle.ix_lines.proofs.RunBreaks.{run-more, run-none, run-some}
use Rattle.ix_lines.proofs.byte_runs.run_at.Goals as goal

pub returns-then-run_waits : goal.returns-then-run_waits
returns-then-run_waits c =
    run-more (λ b. in_set c.args.scan.now.starts b) c.args.bytes.now c.args.unfinished c.run_waits.result c.run_length-n.result
    c.run_length-n.ensures
    c.run_waits.ensures c.if-run_waits.true

pub returns-then-n-eq0 : goal.returns-then-n-eq0
returns-then-n-eq0 c =
    run-none (λ b. in_set c.args.scan.now.starts b) c.args.bytes.now c.args.unfinished c.run_waits.result c.run_length-n.result
    c.run_length-n.ensures
    c.run_waits.ensures c.if-run_waits.false c.if-n-eq0.true

pub returns : goal.returns
returns c =
    run-some (λ b. in_set c.args.scan.now.starts b) c.args.bytes.now c.args.unfinished c.run_waits.result c.run_length-n.result
    c.run_length-n.ensures
    c.run_waits.ensures c.if-run_waits.false c.if-n-eq0.false
