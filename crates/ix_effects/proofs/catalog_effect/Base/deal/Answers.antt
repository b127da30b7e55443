use Rattle.std.proofs.Common.{subst, sym}
use Rattle.std.proofs.lemmas.Result.{IfOk-weaker}
use Rattle.ix_effects.specs.Moving.{IsMoved}
use Rattle.ix_effects.specs.declared.catalog_effect.CatalogEffect.{CatalogEffect}
use Rattle.ix_effects.proofs.Dealt.{deal_moves, deal_full}
use Rattle.ix_effects.proofs.catalog_effect.Base.deal.Goals as goal

pub returns-clause-done : goal.returns-clause-done
returns-clause-done c =
    let b = c.args.self.now in
    IfOk-weaker c.deal_out.result _ _ (λ moved e choose history order p d.
    subst (λ (x : CatalogEffect). IsMoved choose history order b.ledger.now b.moment x) (sym e)
    (deal_moves choose history order b c.args.outcomes p d)) c.deal_out.ensures.done

pub returns-clause-full : goal.returns-clause-full
returns-clause-full c = λ is choose history order p d h k.
    deal_full choose history order c.args.self.now c.args.outcomes p d h k (c.deal_out.ensures.full is)
