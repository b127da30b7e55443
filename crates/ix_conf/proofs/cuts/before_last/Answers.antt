use Rattle.std.proofs.Common.{arith}
use Rattle.ix_conf.proofs.CutLemmas.{before_last_found, before_last_none, before_last_empty}
use Rattle.ix_conf.proofs.cuts.before_last.Goals as goal
use Rattle.ix_conf.proofs.cuts.before_last.Goals.{else-not-is_empty-via-then-not-is_empty+else-bytes-byte}
use Rattle.ix_conf.proofs.cuts.before_last.Goals.{else-not-is_empty-via-else-not-is_empty}

pub returns-then-bytes-byte-clause-front : goal.returns-then-bytes-byte-clause-front
returns-then-bytes-byte-clause-front c = before_last_found c.args.byte c.args.bytes.now (grind arith) (grind arith)

pub returns-else-not-is_empty-clause-front : goal.returns-else-not-is_empty-clause-front
returns-else-not-is_empty-clause-front c = elim c.else-not-is_empty.branch [
  | else-not-is_empty-via-then-not-is_empty+else-bytes-byte w ↦ before_last_none c.args.byte c.args.bytes.now (grind arith)
      w.if-bytes-byte.false
  | else-not-is_empty-via-else-not-is_empty w ↦ before_last_empty c.args.byte c.args.bytes.now (grind arith)
]
