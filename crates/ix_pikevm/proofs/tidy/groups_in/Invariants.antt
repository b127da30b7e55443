use Rattle.std.proofs.Common.{ℕ, ◌≤◌, length, drop}
use Rattle.ix_pikevm.specs.Tidied.{AllFit}
use Rattle.ix_pikevm.proofs.tidy.groups_in.Given as goal

abbrev pub invariant-loop-at : goal.invariant-loop-at
invariant-loop-at l =
    record {
      within : l.at ≤ length l.events;
      fit : AllFit l.count (drop l.at l.events);
      least : (n : ℕ) → AllFit n l.events → l.count ≤ n;
    }

abbrev pub decreases-loop-at : goal.decreases-loop-at
decreases-loop-at l = l.at
