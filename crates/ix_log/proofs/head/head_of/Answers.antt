use Rattle.std.proofs.Common.{◌≡◌, ◌≤◌, get_or, arith, rules}
use Rattle.ix_log.proofs.Heads.{body_head}
use Rattle.ix_log.proofs.head.head_of.Goals as goal
use Rattle.ix_log.proofs.head.head_of.Goals.{else-n-gt0-via-then-n-gt0+else-head-ne1, else-n-gt0-via-else-n-gt0}

pub returns-clause-head : goal.returns-clause-head
returns-clause-head c = λ rest end is size left some.
    let le : 5 ≤ c.args.n = omega arith in
    let one : get_or c.args.head.now 0 0 ≡ 1 = elim c.else-n-gt0.branch
    [ else-n-gt0-via-then-n-gt0+else-head-ne1 w ↦ search rules | else-n-gt0-via-else-n-gt0 w ↦ absurd (omega arith) ] in
    body_head rest end c.args.head.now c.args.n is size le c.requires one (λ i. omega (arith, c.type_inv.head i)) c.from_be_bytes-len.result
    c.from_be_bytes-len.ensures (omega arith)
