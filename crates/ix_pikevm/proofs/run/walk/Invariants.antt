use Rattle.std.proofs.Common.{ℕ, length}
use Rattle.ix_pikevm.specs.Leaf.{text_of}
use Rattle.ix_pikevm.specs.Acts.{AllKnown}
use Rattle.ix_pikevm.specs.Plans.{Knows, IsRoom}
use Rattle.ix_pikevm.specs.Ran.{Goes, Grown}
use Rattle.ix_pikevm.specs.Tests.{Counts}
use Rattle.ix_pikevm.proofs.run.walk.Given as goal

abbrev pub invariant-loop-at : goal.invariant-loop-at
invariant-loop-at g l =
    record {
      goes : (start place : ℕ) → Goes (Knows l.plan) l.plan.code.now (text_of l.input) start place l.from l.fn.room.main.cells.items
          l.fn.room.main.stack.items l.fn.first →
          Goes (Knows l.plan) l.plan.code.now (text_of l.input) start place l.at l.room.main.cells.items l.room.main.stack.items l.best;
      grown : Grown l.fn.room.main.cells.items l.room.main.cells.items;
      known : AllKnown (length l.plan.code.now) (length l.room.main.cells.items) l.room.main.stack.items;
      room : IsRoom l.plan l.room;
      counts : Counts l.plan.tests l.fn.steps l.steps;
    }
