use Rattle.std.proofs.Common.{arith}
use Rattle.ix_match.specs.Attempt.{reach}
use Rattle.ix_match.proofs.KeptLemmas.{take-all}
use Rattle.ix_match.proofs.scan.seen.Goals as goal

pub returns-else-bytes-ge-REACH-clause-bytes : goal.returns-else-bytes-ge-REACH-clause-bytes
unfolding reach
returns-else-bytes-ge-REACH-clause-bytes c = take-all reach c.args.bytes.now (let few = c.if-bytes-ge-REACH.false in omega (arith, few))
