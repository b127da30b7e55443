use Rattle.std.proofs.Common.{subst, sym, [], ◌∷◌, ◌++◌}
use Rattle.std.proofs.lemmas.Result.{IfOk-weaker}
use Rattle.ix_model.specs.Step.{state_after}
use Rattle.ix_effects.specs.Moving.{IsMoved}
use Rattle.ix_effects.specs.declared.catalog_effect.CatalogEffect.{CatalogEffect}
use Rattle.ix_effects.proofs.Configured.{reshelved, configure_moves, configure_full}
use Rattle.ix_model.specs.Shelved.{shelved_indexes}
use Rattle.ix_effects.proofs.catalog_effect.Base.configure.Goals as goal

pub returns-clause-done : goal.returns-clause-done
returns-clause-done c =
    let b = c.args.self.now in
    let next = c.args.next.now in
    IfOk-weaker c.configure_out.result _ _ (λ moved e choose history order p d.
    subst (λ (x : CatalogEffect). IsMoved choose history order b.ledger.now b.moment x)
    (sym (e (shelved_indexes d.config.kept (state_after choose (history ++ order ∷ [])).catalog.indexes)
    (reshelved choose history order b c.args.outcomes next p d)))
    (configure_moves choose history order b c.args.outcomes next p d)) c.configure_out.ensures.done

pub returns-clause-full : goal.returns-clause-full
returns-clause-full c = λ is choose history order p d h k.
    (let b = c.args.self.now in
    let next = c.args.next.now in
    configure_full choose history order b c.args.outcomes next p d h k
    (c.configure_out.ensures.full is (shelved_indexes d.config.kept (state_after choose (history ++ order ∷ [])).catalog.indexes)
    (reshelved choose history order b c.args.outcomes next p d)))
