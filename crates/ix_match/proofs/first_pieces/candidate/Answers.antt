use Rattle.std.proofs.Common.{sym, ◌∙◌, arith}
use Rattle.ix_match.proofs.FrontLemmas.{none-at, none-behind, none-to-end}
use Rattle.ix_match.proofs.first_pieces.candidate.Goals as goal

pub returns-then-place-gt0 : goal.returns-then-place-gt0
returns-then-place-gt0 g c = λ k low high.
    none-behind c.args.p.now c.args.text.now k (sym c.requires.front.anchored_is ∙ c.if-front.true) (omega (arith, low)) high

pub returns-then-at-text : goal.returns-then-at-text
returns-then-at-text g c = (
  c.next_place-at.ensures.later,
  c.next_place-at.ensures.within,
  λ k low high. none-at c.args.p.now c.args.text.now k (sym c.requires.front.passes_is
      ∙ c.if-front-2.false) (c.next_place-at.ensures.none k low high),
)

pub returns-else-at-text : goal.returns-else-at-text
returns-else-at-text g c =
    none-to-end c.args.p.now c.args.text.now c.args.place c.next_place-at.result (sym c.requires.front.passes_is
    ∙ c.if-front-2.false) (omega arith) c.next_place-at.ensures.none
