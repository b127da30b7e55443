use Rattle.std.proofs.Common.{arith}
use Rattle.ix_match.proofs.PrefilterLemmas.{over-none}
use Rattle.ix_match.proofs.prefilter.Prefilter.next_place.Goals as goal

pub returns-clause-none : goal.returns-clause-none
returns-clause-none c = λ p are.
    over-none p c.args.self.now.first c.args.text.now c.args.place c.passed_over.result are (λ k. omega (arith, c.type_inv.text k))
    c.requires.place c.passed_over.ensures
