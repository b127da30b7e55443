use Rattle.std.proofs.Common.{◌∙◌, List, ap, subst}
use Rattle.std.specs.Prelude.{IfOk, IsTrue, ◌↔◌}
use Rattle.std.proofs.lemmas.Result.{IfOk-weaker}
use Rattle.ix_conf.specs.declared.tokens.Token.{Token}
use Rattle.ix_conf.specs.Names.{NameRule, FitsRule}
use Rattle.ix_conf.specs.Walk.{walk, start, answer}
use Rattle.ix_conf.proofs.WalkLemmas.{fits_iff}
use Rattle.ix_conf.proofs.names.NamePattern.fits.Goals as goal

pub returns : goal.returns
returns c =
    let tokens = c.self.inside.tokens.items in
    let fold = c.self.inside.fold in
    let name = c.args.name.now in
    let P : NameRule → Type 0 = λ rule. IfOk c.leads_to_end.result (λ fits. IsTrue fits ↔ FitsRule rule name) in
    subst P c.self.view_is
    (IfOk-weaker c.leads_to_end.result _ _ (λ b is.
    fits_iff tokens fold name b c.self.invariant
    (is ∙ ap (λ (ts : List Token). answer (walk fold ts start) name) c.deref.ensures.value))
    c.leads_to_end.ensures)
