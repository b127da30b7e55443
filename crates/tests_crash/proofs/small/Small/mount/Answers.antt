use Rattle.std.proofs.Common.{length}
use Rattle.tests_crash.specs.History.{leaves}
use Rattle.tests_crash.proofs.Standing.{holds_prefix}
use Rattle.tests_crash.proofs.small.Small.mount.Goals as goal

pub returns-clause-mounted : goal.returns-clause-mounted
returns-clause-mounted g c = λ snap h k is keep image told.
    holds_prefix g.D.Disk g.B.ManifestState.fits snap h _ c.mount.new.disk (g.B.ManifestState.stands c.mount.new.state) k image
    (c.in_ok-committer.ensures.mounted (leaves snap h) 0 k (length h) is keep image told) c.run-run.ensures

pub returns-in_err-committer-clause-images : goal.returns-in_err-committer-clause-images
returns-in_err-committer-clause-images g c = λ snap h k is keep. c.mount.ensures.images (leaves snap h) 0 k (length h) is keep

pub returns-clause-images : goal.returns-clause-images
returns-clause-images g c = λ snap h k is keep. c.in_ok-committer.ensures.images (leaves snap h) 0 k (length h) is keep
