use Rattle.std.proofs.Common.{◌≡◌, ◌<◌, ◌+◌, ◌^◌, drop}
use Rattle.ix_life.specs.Prefix.{sizes, shortest, allowed}
use Rattle.ix_life.proofs.caps.shortest.Given as goal

abbrev pub invariant-loop-i : goal.invariant-loop-i
invariant-loop-i l = record {
  left : l.left ≡ sizes (drop l.i l.buckets);
  short : l.left < 2 ^ 127;
  rest : l.i + shortest (allowed l.cap) (drop l.i l.buckets) ≡ shortest (allowed l.cap) l.buckets;
}
