use Rattle.std.proofs.Common.{◌≡◌, ◌≤◌, ◌*◌, ◌^◌, take}
use Rattle.ix_life.specs.Prefix.{sizes}
use Rattle.ix_life.proofs.caps.sizes.Given as goal

abbrev pub invariant-loop-i : goal.invariant-loop-i
invariant-loop-i l = record {
  sum : l.total ≡ sizes (take l.i l.buckets);
  short : l.total ≤ l.i * 2 ^ 64;
}
