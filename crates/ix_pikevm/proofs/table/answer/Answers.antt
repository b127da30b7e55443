use Rattle.std.proofs.Common.{sym, ◌∙◌, arith}
use Rattle.ix_pikevm.proofs.TestLemmas.{answer-at, counts-none}
use Rattle.ix_pikevm.proofs.table.answer.Goals as goal

pub returns-then-piece-tests-clause-is : goal.returns-then-piece-tests-clause-is
returns-then-piece-tests-clause-is g c =
    c.requires.tests.table c.args.byte c.args.piece (omega arith) (omega arith)
    ∙ sym (answer-at c.args.tests.pattern.now.rows c.args.byte c.args.piece c.requires.piece)

pub returns-then-piece-tests-clause-counts : goal.returns-then-piece-tests-clause-counts
returns-then-piece-tests-clause-counts g c = counts-none

pub returns-else-piece-tests-clause-is : goal.returns-else-piece-tests-clause-is
returns-else-piece-tests-clause-is g c = c.takes.ensures.taken
    ∙ sym (answer-at c.args.tests.pattern.now.rows c.args.byte c.args.piece c.requires.piece)

pub returns-else-piece-tests-clause-counts : goal.returns-else-piece-tests-clause-counts
returns-else-piece-tests-clause-counts g c = record { later = c.takes.ensures.later; none = λ whole. absurd (omega (arith, whole)) }
