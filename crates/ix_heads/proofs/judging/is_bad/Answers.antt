use Rattle.std.proofs.Common.{inr}
use Rattle.ix_heads.proofs.FrontLemmas.{crowded_all}
use Rattle.ix_heads.proofs.judging.is_bad.Goals as goal

pub returns-in-Head : goal.returns-in-Head
returns-in-Head c =
    let found = rw c.in-Head.is at c.in_ok-look_at.ensures in
    let all = crowded_all c.args.bytes.now c.requires.some c.requires.before c.requires.many found.0 found.1 found.2 in
    inr (found.0, all.0, all.1)
