use Rattle.std.proofs.Common.{ℕ, List, Option, sym, ◌∙◌, subst, arith}
use Rattle.std.specs.Prelude.{IfSome}
use Rattle.ix_match.specs.Leads.{EachBegins}
use Rattle.ix_match.proofs.FrontLemmas.{none-at, none-to-end}
use Rattle.ix_match.proofs.PrefilterLemmas.{literal-candidate}
use Rattle.ix_match.proofs.prefilter.Prefilter.unanchored.Goals as goal

pub returns-in-Some : goal.returns-in-Some
returns-in-Some c = λ p is.
    literal-candidate p c.args.text.now c.in-Some.literal c.args.place c.next_literal.result
    (subst (λ (o : Option (List ℕ)). IfSome o (EachBegins p)) c.in-Some.is is.literal) (λ k. omega (arith, c.type_inv.text k))
    c.next_literal.ensures

pub returns-then-at-text : goal.returns-then-at-text
returns-then-at-text c = λ p is. (
  c.next_place-at.ensures.later,
  c.next_place-at.ensures.within,
  λ k low high. none-at p c.args.text.now k (sym is.passes_is ∙ c.if-self.false) (c.next_place-at.ensures.none p is.first k low high),
)

pub returns-else-at-text : goal.returns-else-at-text
returns-else-at-text c = λ p is.
    none-to-end p c.args.text.now c.args.place c.next_place-at.result (sym is.passes_is
    ∙ c.if-self.false) (omega arith) (c.next_place-at.ensures.none p is.first)
