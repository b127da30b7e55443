use Rattle.tests_crash.proofs.Standing.{stands_either, holds_all}
use Rattle.tests_crash.proofs.small.Small.commit.Goals as goal

pub returns-in_err-commit-clause-images : goal.returns-in_err-commit-clause-images
returns-in_err-commit-clause-images g c = λ snap h k holds.
    stands_either g.D.Disk g.B.ManifestState.fits snap h c.args.disk.now c.commit.new.disk c.args.self.now k holds
    (c.commit.ensures.images holds.old holds.new holds.held)

pub returns-clause-images : goal.returns-clause-images
returns-clause-images g c = λ snap h k holds. stands_either g.D.Disk g.B.ManifestState.fits snap h c.args.disk.now c.commit.new.disk
    c.args.self.now k holds (c.commit.ensures.images holds.old holds.new holds.held)

pub returns-clause-done : goal.returns-clause-done
returns-clause-done g c = λ snap h k holds. holds_all g.D.Disk g.B.ManifestState.fits snap h _ c.commit.new.disk holds.new
    (c.in_ok-commit.ensures.done holds.old holds.new holds.held) holds.new_like holds.new_run
