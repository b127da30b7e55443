use Rattle.std.proofs.Common.{◌≡◌, length}
use Rattle.ix_pattern.specs.Rows.{Rows}
use Rattle.ix_pikevm.specs.Leaf.{text_of}
use Rattle.ix_pikevm.specs.Ran.{IsOf, AreMarks}
use Rattle.ix_pikevm.specs.Tests.{Counts}
use Rattle.ix_pikevm.specs.Programs.{AreAsks, AllLooked}
use Rattle.ix_pikevm.proofs.ahead.look_all.Given as goal

abbrev pub invariant-loop-k : goal.invariant-loop-k
invariant-loop-k g l =
    record {
      looks : (rows : Rows) → AreAsks rows l.inner l.asks → IsOf l.tests.pattern.now.rows rows →
          AllLooked l.k l.asks l.looks.items rows (text_of l.input) l.place;
      all : length l.looks.items ≡ length l.fn.looks.items;
      counts : Counts l.tests l.fn.steps l.steps;
      marks : AreMarks l.work.marks.items (length l.inner) l.work.stamp;
    }
