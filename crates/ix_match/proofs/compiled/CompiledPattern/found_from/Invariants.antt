use Rattle.std.proofs.Common.{◌≡◌, ℕ, ◌+◌, ◌-◌, ◌≤◌, ◌<◌, [], length}
use Rattle.ix_pikevm.specs.Finders.{HasRoom}
use Rattle.ix_match.specs.Matches.{ways_from}
use Rattle.ix_match.proofs.compiled.CompiledPattern.found_from.Given as goal

-- no place so far has a way
abbrev pub invariant-loop-room : goal.invariant-loop-room
invariant-loop-room g l =
    record {
      later : l.from ≤ l.at;
      within : l.at ≤ length l.text;
      none : (place : ℕ) → l.from ≤ place → place < l.at → ways_from l.self.pattern l.text place ≡ [];
      room : HasRoom l.self.program l.room;
    }

abbrev pub decreases-loop-room : goal.decreases-loop-room
decreases-loop-room g l = length l.text + 1 - l.at
