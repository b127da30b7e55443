use Rattle.std.proofs.Common.{subst, sym}
use Rattle.std.proofs.lemmas.Result.{IfOk-weaker}
use Rattle.ix_effects.specs.Moving.{IsMoved}
use Rattle.ix_effects.specs.declared.catalog_effect.CatalogEffect.{CatalogEffect}
use Rattle.ix_effects.proofs.Thawed.{can, entry_is, thaw_moves, thaw_full}
use Rattle.ix_effects.proofs.catalog_effect.Base.thaw.Goals as goal

pub returns-clause-done : goal.returns-clause-done
returns-clause-done c =
    let b = c.args.self.now in
    let index = c.args.index.now in
    IfOk-weaker c.thaw_out.result _ _ (λ moved e choose history order p is.
    (let k = can choose history order b index c.args.id p is in
    subst (λ (x : CatalogEffect). IsMoved choose history order b.ledger.now b.moment x)
    (sym (e k.entry k.archive (entry_is choose history order b index c.args.id p is) k.archived))
    (thaw_moves choose history order b index c.args.id p is))) c.thaw_out.ensures.done

pub returns-clause-full : goal.returns-clause-full
returns-clause-full c = λ is choose history order p t h l.
    (let b = c.args.self.now in
    let index = c.args.index.now in
    let k = can choose history order b index c.args.id p t in
    thaw_full choose history order b index c.args.id p t h l
    (c.thaw_out.ensures.full is k.entry k.archive (entry_is choose history order b index c.args.id p t) k.archived))
