use Rattle.std.proofs.Common.{◌||◌, ◌&&◌, nat_le, arith}
use Rattle.ix_pattern.specs.Piece.{in_set}
use Rattle.ix_pattern.specs.Sets.{with_range}
use Rattle.ix_pattern.proofs.SetLemmas.{same-set, more-set, read-set}
use Rattle.ix_pattern.proofs.sets.with_range.Goals as goal

pub returns : goal.returns
unfolding with_range
returns c = same-set _ c.loop-b.x-items c.loop-b-test.array_long (λ k h. c.loop-b.invariant k (omega arith))

pub loop-b-preserved : goal.loop-b-preserved
loop-b-preserved c = more-set (λ k. in_set c.args.set k || (nat_le c.args.low k && nat_le k c.args.high)) c.loop-b.x-items c.loop-b.b _
    (omega arith) (simp (c.from.ensures, c.from-in-loop-b.ensures, read-set)) c.loop-b.invariant
