use Rattle.std.proofs.Common.{◌≡◌}
use Rattle.ix_log.specs.Log.{IsMounted, put_so_far}
use Rattle.tests_base_and_disk.proofs.log.reach_end.Given as goal

abbrev pub invariant-loop : goal.invariant-loop
invariant-loop g l = record { mounted : IsMounted g.D.Disk l.log l.disk; none_put : put_so_far l.log ≡ 0 }
