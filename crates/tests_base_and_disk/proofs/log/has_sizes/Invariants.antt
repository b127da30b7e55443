use Rattle.ix_log.specs.Log.{IsMounted}
use Rattle.tests_base_and_disk.proofs.log.has_sizes.Given as goal

abbrev pub invariant-loop-size : goal.invariant-loop-size
invariant-loop-size g l = IsMounted g.D.Disk l.log l.disk
