use mir.Val.{to_z, of_z}
use Rattle.std.proofs.Common.{ℤ, List, ◌++◌, [], ◌∷◌, sym, subst, w64}
use Rattle.ix_base.specs.declared.events.Routed.{Routed}
use Rattle.ix_channels.specs.Put.{ArePut}
use Rattle.ix_channels.proofs.PutLemmas.{put_more}
use Rattle.ix_channels.proofs.putting.put_all.Goals as goal

pub loop-direct-preserved : goal.loop-direct-preserved
loop-direct-preserved c =
    let config = c.args.config.now in
    let moment : ℤ = to_z w64 (of_z w64 c.args.moment) in
    subst (λ (o : List Routed). ArePut config.limits config.props moment (c.loop-direct.yielded ++ c.in-Some.direct ∷ []) o)
    (sym c.in_ok-push.ensures.ok)
    (put_more config.limits config.props moment c.loop-direct.yielded c.loop-direct.outcomes c.in-Some.direct c.in_ok-routed.routed
    c.loop-direct.invariant
    c.in_ok-routed.ensures)
