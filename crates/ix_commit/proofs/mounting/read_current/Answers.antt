use Rattle.std.proofs.Common.{le_trans, ◌∙◌}
use Rattle.ix_disk.proofs.Runs.{stays_on}
use Rattle.ix_commit.proofs.Failing.{no_failure}
use Rattle.ix_commit.proofs.mounting.read_current.Goals as goal

pub returns-in-Ok-replay_log-clause-images : goal.returns-in-Ok-replay_log-clause-images
returns-in-Ok-replay_log-clause-images g c = stays_on g.D.Disk c.args.disk.now c.mount.new.disk c.replay_log.new.disk c.mount.ensures.images
    c.replay_log.ensures.images

pub returns-in-Ok-replay_log-clause-same : goal.returns-in-Ok-replay_log-clause-same
returns-in-Ok-replay_log-clause-same g c = c.replay_log.ensures.same ∙ c.mount.ensures.same

pub returns-in-Ok-replay_log-clause-later : goal.returns-in-Ok-replay_log-clause-later
returns-in-Ok-replay_log-clause-later g c = le_trans c.mount.ensures.later c.replay_log.ensures.later

pub returns-in-Err-clause-images : goal.returns-in-Err-clause-images
returns-in-Err-clause-images g c = stays_on g.D.Disk c.args.disk.now c.mount.new.disk c.replay_log.new.disk c.mount.ensures.images
    c.replay_log.ensures.images

pub returns-in-Err-clause-same : goal.returns-in-Err-clause-same
returns-in-Err-clause-same g c = c.replay_log.ensures.same ∙ c.mount.ensures.same

pub returns-in-Err-clause-later : goal.returns-in-Err-clause-later
returns-in-Err-clause-later g c = le_trans c.mount.ensures.later c.replay_log.ensures.later

pub returns-in-Ok-replay_log-clause-cause : goal.returns-in-Ok-replay_log-clause-cause
returns-in-Ok-replay_log-clause-cause g c = λ is. absurd (no_failure _ _ is)

pub returns-in-Ok-replay_log-clause-damaged : goal.returns-in-Ok-replay_log-clause-damaged
returns-in-Ok-replay_log-clause-damaged g c = λ named at is. absurd (no_failure _ _ is)

pub returns-in-Ok-replay_log-clause-not_full : goal.returns-in-Ok-replay_log-clause-not_full
returns-in-Ok-replay_log-clause-not_full g c = λ is. no_failure _ _ is
