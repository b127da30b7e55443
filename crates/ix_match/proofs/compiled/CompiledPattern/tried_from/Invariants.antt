use Rattle.std.proofs.Common.{◌≡◌, ℕ, ◌+◌, ◌-◌, ◌≤◌, ◌<◌, [], length}
use Rattle.ix_match.specs.Matches.{ways_from}
use Rattle.ix_match.proofs.compiled.CompiledPattern.tried_from.Given as goal

-- no place so far has a way
abbrev pub invariant-loop-tries : goal.invariant-loop-tries
invariant-loop-tries g l =
    record {
      later : l.from ≤ l.at;
      within : l.at ≤ length l.text;
      none : (place : ℕ) → l.from ≤ place → place < l.at → ways_from l.self.pattern l.text place ≡ [];
    }

abbrev pub decreases-loop-tries : goal.decreases-loop-tries
decreases-loop-tries g l = length l.text + 1 - l.at
