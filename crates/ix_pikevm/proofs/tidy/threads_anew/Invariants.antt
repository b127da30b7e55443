use Rattle.std.proofs.Common.{ℕ, ◌+◌, ◌*◌, ◌≤◌, length, take}
use Rattle.ix_pikevm.specs.Tidied.{AreAnew, AllNarrow}
use Rattle.ix_pikevm.proofs.tidy.threads_anew.Given as goal

abbrev pub invariant-loop-at : goal.invariant-loop-at
invariant-loop-at l =
    record {
      threads : AreAnew l.old (take l.at l.threads) l.cells.items l.anew.items;
      short : (groups nested : ℕ) → AllNarrow groups nested l.old l.threads →
          length l.cells.items ≤ length l.fn.cells.items + l.at * (2 * groups + nested);
    }
