use Rattle.std.proofs.Common.{rules, ◌≡◌, Err, subst, ◌∙◌}
use Rattle.std.proofs.lemmas.Result.{err_from_is_err_and}
use Rattle.ix_base.specs.declared.files.File.{File}
use Rattle.ix_disk.specs.Image.{bytes_in}
use Rattle.ix_manifest.specs.Root.{Taken}
use Rattle.ix_manifest.specs.Replaying.{IsBadGate}
use Rattle.ix_manifest.specs.declared.manifest_state.ReplayFault.TheVariants as faults
use Rattle.ix_manifest.proofs.Replays.{on_false}
use Rattle.ix_manifest.proofs.manifest_state.replay_log.Goals as goal

pub returns-in_err-replay_next-clause-damaged : goal.returns-in_err-replay_next-clause-damaged
returns-in_err-replay_next-clause-damaged g c = λ at is image told.
    let p = err_from_is_err_and c.from_residual.result c.from_residual.ensures.1 in
    let p1 = p.1 in
    let p2 = p.2 in
    let w : c.replay_next.result ≡ Err c.in_err-replay_next.field-0.0 = c.in_err-replay_next.was in
    let was : c.replay_next.result ≡ Err (faults.Damaged at) = cc in
    let inv = c.loop-i.invariant in
    subst (λ (f : File). IsBadGate (Taken g.B.ManifestState.fits c.args.current) (g.B.ManifestState.stands c.args.state.now) at
    (bytes_in image f)) inv.file
    (c.replay_next.ensures.damaged (g.B.ManifestState.stands c.args.state.now) c.loop-i.first c.loop-i.i inv.replaying at was image
    (inv.same ∙ told))

pub returns-then-not-branch-clause-replayed : goal.returns-then-not-branch-clause-replayed
returns-then-not-branch-clause-replayed g c =
    let inv = c.loop-i.invariant in
    let none = c.if-not-branch.true in
    on_false c.in_ok-replay_next.field-0 _ _ (search rules)
    (c.in_ok-replay_next.ensures.more (g.B.ManifestState.stands c.args.state.now) c.loop-i.first c.loop-i.i inv.replaying)
