use Rattle.std.proofs.Common.{vec_len}
use Rattle.ix_pattern.proofs.ReadLemmas.{HasCome}
use Rattle.ix_pattern.proofs.reading.read_tokens.Given as goal

abbrev pub invariant-loop-token : goal.invariant-loop-token
invariant-loop-token l = HasCome l.reader l.initial.tokens.items l.tokens.items

abbrev pub decreases-loop-token : goal.decreases-loop-token
decreases-loop-token l = vec_len l.tokens
