use Rattle.std.proofs.Common.{◌≡◌, ◌++◌, take}
use Rattle.ix_life.specs.Housekeeping.{by_rule}
use Rattle.ix_life.proofs.housekeeping.freeze.Given as goal

abbrev pub invariant-loop-bucket : goal.invariant-loop-bucket
invariant-loop-bucket l = l.list.items ≡ l.fn.list.items ++ by_rule l.rule (take l.bucket-index l.buckets)
