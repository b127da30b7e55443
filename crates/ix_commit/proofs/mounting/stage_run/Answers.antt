use Rattle.std.proofs.Common.{◌≡◌, true, false, arith}
use Rattle.ix_commit.proofs.Pending.{begins_run, has_no_next}
use Rattle.ix_commit.proofs.mounting.stage_run.Goals as goal

pub returns-in-Ok-clause-begins : goal.returns-in-Ok-clause-begins
returns-in-Ok-clause-begins g c = λ is.
    let book = g.B.ManifestState.stands c.args.state.now in
    let some : c.in-Ok.fits ≡ true = cc in
    begins_run g.B.ManifestState.fits c.args.committer.now c.enter_run.new.committer book (g.B.ManifestState.stands c.enter_run.new.state)
    c.run-run.result c.has_settings-fresh.result c.requires c.has_settings-fresh.ensures c.run-run.ensures c.in_ok-enter_run.ensures.staged
    c.in_ok-enter_run.ensures.made (g.B.ManifestState.stands c.judge.new.self) c.judge.ensures.same
    (omega (arith, c.if-run-ge9223372036854775807.false)) (c.in-Ok.ensures.judged.0 some) c.in_ok-enter_run.ensures.items

pub returns-in-Ok-clause-none : goal.returns-in-Ok-clause-none
returns-in-Ok-clause-none g c = λ is.
    let book = g.B.ManifestState.stands c.args.state.now in
    let none : c.in-Ok.fits ≡ false = cc in
    has_no_next g.B.ManifestState.fits c.args.committer.now c.enter_run.new.committer book (g.B.ManifestState.stands c.enter_run.new.state)
    c.run-run.result c.has_settings-fresh.result c.requires c.has_settings-fresh.ensures c.run-run.ensures c.in_ok-enter_run.ensures.staged
    c.in_ok-enter_run.ensures.made (g.B.ManifestState.stands c.judge.new.self) c.judge.ensures.same
    (λ fit. let some : c.in-Ok.fits ≡ true = c.in-Ok.ensures.judged.1 fit in absurd cc)
