use Rattle.std.proofs.Common.{length, min, reverse}
use Rattle.ix_pikevm.specs.Leaf.{text_of}
use Rattle.ix_pikevm.specs.Acts.{AllKnown}
use Rattle.ix_pikevm.specs.Plans.{Knows, IsRoom}
use Rattle.ix_pikevm.specs.Seeks.{Carry}
use Rattle.ix_pikevm.specs.Tests.{Counts}
use Rattle.ix_pikevm.proofs.seek.seek.Given as goal

abbrev pub invariant-loop-at : goal.invariant-loop-at
invariant-loop-at g l =
    record {
      carry : Carry (Knows l.plan) l.plan.code.now (text_of l.input) l.start l.from (min l.at l.to) l.at (reverse l.room.main.stack.items);
      known : AllKnown (length l.plan.code.now) (length l.room.main.cells.items) l.room.main.stack.items;
      room : IsRoom l.plan l.room;
      counts : Counts l.plan.tests l.fn.steps l.steps;
    }
