use Rattle.std.proofs.Common.{arith}
use Rattle.ix_match.proofs.FewLemmas.{lists}
use Rattle.ix_match.proofs.few.few_of.Goals as goal

pub returns : goal.returns
returns c = lists c.first_members-few.result c.args.set.now (λ b low. c.loop-byte.invariant b (omega (arith, low, c.loop-byte-test.false)))
