use Rattle.std.proofs.Common.{subst, sym}
use Rattle.std.proofs.lemmas.Result.{IfOk-weaker}
use Rattle.ix_effects.specs.Moving.{IsMoved}
use Rattle.ix_effects.specs.declared.catalog_effect.CatalogEffect.{CatalogEffect}
use Rattle.ix_effects.proofs.Rolled.{roll_moves, roll_full}
use Rattle.ix_effects.proofs.catalog_effect.Base.roll.Goals as goal

pub returns-clause-done : goal.returns-clause-done
returns-clause-done c =
    let b = c.args.self.now in
    IfOk-weaker c.roll_out.result _ _ (λ moved e choose history order p is.
    subst (λ (x : CatalogEffect). IsMoved choose history order b.ledger.now b.moment x) (sym e)
    (roll_moves choose history order b c.args.index.now p is)) c.roll_out.ensures.done

pub returns-clause-full : goal.returns-clause-full
returns-clause-full c = λ is choose history order p t h k.
    roll_full choose history order c.args.self.now c.args.index.now p t k (c.roll_out.ensures.full is)
