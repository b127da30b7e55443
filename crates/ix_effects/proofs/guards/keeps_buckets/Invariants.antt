use Rattle.std.proofs.Common.{take}
use Rattle.std.specs.Prelude.{All}
use Rattle.ix_catalog.specs.Numbers.{KeepsBucket}
use Rattle.ix_effects.proofs.guards.keeps_buckets.Given as goal

abbrev pub invariant-loop-bucket : goal.invariant-loop-bucket
invariant-loop-bucket l = All KeepsBucket (take l.bucket-index l.buckets)
