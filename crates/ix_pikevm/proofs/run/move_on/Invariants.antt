use Rattle.std.proofs.Common.{ℕ, length}
use Rattle.ix_pattern.specs.Ways.{Text}
use Rattle.ix_pikevm.specs.Leaf.{text_of}
use Rattle.ix_pikevm.specs.Acts.{AllKnown}
use Rattle.ix_pikevm.specs.Plans.{Knows, IsRoom}
use Rattle.ix_pikevm.specs.Ran.{Goes, Sees}
use Rattle.ix_pikevm.specs.Tests.{Counts}
use Rattle.ix_pikevm.proofs.run.move_on.Given as goal

abbrev pub invariant-loop-at : goal.invariant-loop-at
invariant-loop-at g l =
    record {
      moves : (real : Text) → Sees l.plan.asks.now (text_of l.input) real l.to → (start place : ℕ) →
          Goes (Knows l.plan) l.plan.code.now real start place l.from l.fn.room.main.cells.items l.fn.room.main.stack.items l.fn.first →
          Goes (Knows l.plan) l.plan.code.now real start place l.at l.room.main.cells.items l.room.main.stack.items l.best;
      known : AllKnown (length l.plan.code.now) (length l.room.main.cells.items) l.room.main.stack.items;
      room : IsRoom l.plan l.room;
      counts : Counts l.plan.tests l.fn.steps l.steps;
    }
