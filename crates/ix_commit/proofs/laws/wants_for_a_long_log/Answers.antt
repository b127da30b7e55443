use Rattle.ix_commit.proofs.Shorter.{tells_long}
use Rattle.ix_commit.proofs.laws.wants_for_a_long_log.Goals as goal

pub returns : goal.returns
returns g c = tells_long g.D.Disk (λ image disk told. g.met.D.Disk.seen_may_stay disk image told)
