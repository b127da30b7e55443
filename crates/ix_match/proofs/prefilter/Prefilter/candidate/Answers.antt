use Rattle.std.proofs.Common.{sym, ◌∙◌, arith}
use Rattle.ix_match.proofs.FrontLemmas.{none-behind}
use Rattle.ix_match.proofs.PrefilterLemmas.{anchored-candidate}
use Rattle.ix_match.proofs.prefilter.Prefilter.candidate.Goals as goal

pub returns-then-place-gt0 : goal.returns-then-place-gt0
returns-then-place-gt0 c = λ p is k low high.
    none-behind p c.args.text.now k (sym is.anchored_is ∙ c.if-self.true) (omega (arith, low)) high

pub returns-then-at-gt0 : goal.returns-then-at-gt0
returns-then-at-gt0 c = λ p is.
    anchored-candidate p c.args.text.now c.args.place c.in_ok-at.at (sym is.anchored_is
    ∙ c.if-self-2.true) (omega arith) (c.in_ok-at.ensures p is)
