use Rattle.ix_commit.specs.Snapshot.{LogsAtEnd}
use Rattle.tests_crash.proofs.script.commit_groups.Given as goal

abbrev pub invariant-loop-number : goal.invariant-loop-number
invariant-loop-number g l = LogsAtEnd g.D.Disk l.committer l.disk
