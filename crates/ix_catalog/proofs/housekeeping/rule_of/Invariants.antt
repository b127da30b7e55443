use Rattle.std.proofs.Common.{◌≡◌, drop}
use Rattle.ix_catalog.specs.Buckets as buckets
use Rattle.ix_catalog.proofs.housekeeping.rule_of.Given as goal

abbrev pub invariant-loop-i : goal.invariant-loop-i
invariant-loop-i l = buckets.rule_of (drop l.i l.frozen) l.id ≡ buckets.rule_of l.frozen l.id
