use Rattle.std.proofs.Common.{not, arith}
use Rattle.ix_pattern.specs.Piece.{in_set}
use Rattle.ix_pattern.specs.Sets.{complement}
use Rattle.ix_pattern.proofs.SetLemmas.{same-set, more-set, read-set}
use Rattle.ix_pattern.proofs.sets.complement.Goals as goal

pub returns : goal.returns
unfolding complement
returns c = same-set _ c.loop-b.x-items c.loop-b-test.array_long (λ k h. c.loop-b.invariant k (omega arith))

pub loop-b-preserved : goal.loop-b-preserved
loop-b-preserved c = more-set (λ k. not (in_set c.args.set k)) c.loop-b.x-items c.loop-b.b _ (omega arith) (simp read-set)
    c.loop-b.invariant
