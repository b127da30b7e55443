use Rattle.std.proofs.Common.{le_trans, ◌∙◌}
use Rattle.ix_disk.proofs.Runs.{stays_on}
use Rattle.ix_commit.proofs.Failing.{no_failure}
use Rattle.ix_commit.proofs.mounting.read_numbers.Goals as goal

pub returns-in-Ok-read_root-clause-images : goal.returns-in-Ok-read_root-clause-images
returns-in-Ok-read_root-clause-images g c = stays_on g.D.Disk c.args.disk.now c.mount.new.disk c.read_root.new.disk c.mount.ensures.images
    c.read_root.ensures.images

pub returns-in-Ok-read_root-clause-same : goal.returns-in-Ok-read_root-clause-same
returns-in-Ok-read_root-clause-same g c = c.read_root.ensures.same ∙ c.mount.ensures.same

pub returns-in-Ok-read_root-clause-later : goal.returns-in-Ok-read_root-clause-later
returns-in-Ok-read_root-clause-later g c = le_trans c.mount.ensures.later c.read_root.ensures.later

pub returns-in-Err-clause-images : goal.returns-in-Err-clause-images
returns-in-Err-clause-images g c = stays_on g.D.Disk c.args.disk.now c.mount.new.disk c.read_root.new.disk c.mount.ensures.images
    c.read_root.ensures.images

pub returns-in-Err-clause-same : goal.returns-in-Err-clause-same
returns-in-Err-clause-same g c = c.read_root.ensures.same ∙ c.mount.ensures.same

pub returns-in-Err-clause-later : goal.returns-in-Err-clause-later
returns-in-Err-clause-later g c = le_trans c.mount.ensures.later c.read_root.ensures.later

pub returns-in-Ok-read_root-clause-cause : goal.returns-in-Ok-read_root-clause-cause
returns-in-Ok-read_root-clause-cause g c = λ is. absurd (no_failure _ _ is)

pub returns-in-Ok-read_root-clause-damaged : goal.returns-in-Ok-read_root-clause-damaged
returns-in-Ok-read_root-clause-damaged g c = λ named at is. absurd (no_failure _ _ is)

pub returns-in-Ok-read_root-clause-not_full : goal.returns-in-Ok-read_root-clause-not_full
returns-in-Ok-read_root-clause-not_full g c = λ is. no_failure _ _ is
