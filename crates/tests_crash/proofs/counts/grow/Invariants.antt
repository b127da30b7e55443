use Rattle.ix_commit.specs.Snapshot.{LogsAtEnd}
use Rattle.tests_crash.proofs.counts.grow.Given as goal

abbrev pub invariant-loop-count : goal.invariant-loop-count
invariant-loop-count g l = LogsAtEnd g.D.Disk l.committer l.disk
