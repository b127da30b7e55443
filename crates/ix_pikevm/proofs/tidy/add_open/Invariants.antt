use Rattle.std.proofs.Common.{◌+◌, ◌≤◌, [], length, take, reverse}
use Rattle.ix_pikevm.specs.Ran.{Grown}
use Rattle.ix_pikevm.specs.Tidied.{Groups, ComesTo}
use Rattle.ix_pikevm.proofs.tidy.add_open.Given as goal

abbrev pub invariant-loop-at : goal.invariant-loop-at
invariant-loop-at l =
    record {
      trail : (groups : Groups → Groups) → ComesTo l.fn.cells.items l.earlier (λ before. record { began = []; groups = groups before }) →
          ComesTo l.cells.items l.trail (λ before. record { began = reverse (take l.at l.began); groups = groups before });
      short : length l.cells.items ≤ length l.fn.cells.items + l.at;
      grown : Grown l.fn.cells.items l.cells.items;
    }
