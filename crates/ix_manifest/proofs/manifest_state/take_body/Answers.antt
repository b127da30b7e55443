use Rattle.std.proofs.Common.{rules, sym, subst}
use Rattle.ix_manifest.specs.Root.{Taken}
use Rattle.ix_manifest.proofs.Applying.{applied_items}
use Rattle.ix_manifest.proofs.manifest_state.take_body.Goals as goal

pub returns-in-Ok-false-clause-bad : goal.returns-in-Ok-false-clause-bad
returns-in-Ok-false-clause-bad g c = λ is items body fit.
    let to = applied_items c.args.body.now (g.B.ManifestState.stands c.args.state.now) (g.B.ManifestState.stands c.apply_all.new.state)
    items c.in_ok-apply_all.ensures.replayed body.are in
    let taken = subst (Taken g.B.ManifestState.fits c.args.current) (sym to) fit in
    let yes = c.in-Ok-false.ensures.judged.1 taken in
    let no = c.in-Ok-false.field-0-test in
    search rules
