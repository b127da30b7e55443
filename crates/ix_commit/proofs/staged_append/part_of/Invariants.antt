use Rattle.std.proofs.Common.{◌≢◌, length, ◌-◌, ◌≤◌, take}
use Rattle.std.specs.Prelude.{All}
use Rattle.ix_commit.specs.Parts.{file_in}
use Rattle.ix_commit.proofs.staged_append.part_of.Given as goal

abbrev pub invariant-loop-at : goal.invariant-loop-at
invariant-loop-at l = record {
  within : l.at ≤ length l.parts;
  none : All (λ part. file_in part ≢ l.file) (take l.at l.parts);
}

abbrev pub decreases-loop-at : goal.decreases-loop-at
decreases-loop-at l = length l.parts - l.at
