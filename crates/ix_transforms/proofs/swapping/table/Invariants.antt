use Rattle.std.proofs.Common.{◌≡◌, ℕ, ◌<◌, ◌≤◌, length, get_or, drop}
use Rattle.ix_transforms.specs.Seds.{swapped}
use Rattle.ix_transforms.proofs.swapping.table.Given as goal

abbrev pub invariant-loop-byte : goal.invariant-loop-byte
invariant-loop-byte l = (length l.becomes ≡ 256) × ((k : ℕ) → k < l.byte → get_or l.becomes k 0 ≡ k)

abbrev pub invariant-loop-at : goal.invariant-loop-at
invariant-loop-at l = record {
  whole : length l.becomes ≡ 256;
  within : l.at ≤ length l.from;
  so_far : (b : ℕ) → b < 256 → get_or l.becomes b 0 ≡ swapped (drop l.at l.from) (drop l.at l.to) b;
}

abbrev pub decreases-loop-at : goal.decreases-loop-at
decreases-loop-at l = l.at
