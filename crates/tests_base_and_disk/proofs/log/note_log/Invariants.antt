use Rattle.ix_log.specs.Log.{IsMounted}
use Rattle.tests_base_and_disk.proofs.log.note_log.Given as goal

abbrev pub invariant-loop : goal.invariant-loop
invariant-loop g l = IsMounted g.D.Disk l.log l.disk
