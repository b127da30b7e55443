use Rattle.std.proofs.Common.{◌+◌, ◌≤◌, ◌*◌, [], length, take}
use Rattle.ix_pikevm.specs.Ran.{Grown}
use Rattle.ix_pikevm.specs.Tidied.{ComesTo, over}
use Rattle.ix_pikevm.proofs.tidy.add_groups.Given as goal

abbrev pub invariant-loop-at : goal.invariant-loop-at
invariant-loop-at l =
    record {
      trail : ComesTo l.cells.items l.trail (λ before. record { began = []; groups = over before (take l.at l.groups) });
      short : length l.cells.items ≤ length l.fn.cells.items + 2 * l.at;
      grown : Grown l.fn.cells.items l.cells.items;
    }
