use Rattle.std.proofs.Common.{ℕ, length}
use Rattle.ix_pikevm.specs.Leaf.{text_of}
use Rattle.ix_pikevm.specs.Acts.{AllKnown}
use Rattle.ix_pikevm.specs.Ran.{IsOf, AreMarks, Goes, Grown}
use Rattle.ix_pikevm.specs.Tests.{Counts}
use Rattle.ix_pikevm.proofs.plain.walk.Given as goal

abbrev pub invariant-loop-at : goal.invariant-loop-at
invariant-loop-at g l =
    record {
      goes : (start place : ℕ) → Goes (IsOf l.tests.pattern.now.rows) l.code (text_of l.input) start place l.from l.fn.work.cells.items
          l.fn.work.stack.items l.fn.first →
          Goes (IsOf l.tests.pattern.now.rows) l.code (text_of l.input) start place l.at l.work.cells.items l.work.stack.items l.best;
      grown : Grown l.fn.work.cells.items l.work.cells.items;
      known : AllKnown (length l.code) (length l.work.cells.items) l.work.stack.items;
      counts : Counts l.tests l.fn.steps l.steps;
      marks : AreMarks l.work.marks.items (length l.code) l.work.stamp;
    }
