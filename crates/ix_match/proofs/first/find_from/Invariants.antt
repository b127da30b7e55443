use Rattle.std.proofs.Common.{◌≡◌, ℕ, ◌+◌, ◌-◌, ◌≤◌, ◌<◌, [], length}
use Rattle.ix_match.specs.Matches.{ways_from}
use Rattle.ix_match.specs.Searches.{IsSearch}
use Rattle.ix_match.proofs.first.find_from.Given as goal

-- no place so far has a way
abbrev pub invariant-loop-at : goal.invariant-loop-at
invariant-loop-at g l =
    record {
      later : l.from ≤ l.place;
      within : l.place ≤ length l.text;
      none : (place : ℕ) → l.from ≤ place → place < l.place → ways_from l.p l.text place ≡ [];
      search : IsSearch l.p.rows l.search;
    }

abbrev pub decreases-loop-at : goal.decreases-loop-at
decreases-loop-at g l = length l.text + 1 - l.place
