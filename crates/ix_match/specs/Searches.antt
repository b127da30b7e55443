-- The search for a pattern, and what it works in.
use Rattle.std.specs.Prelude.{◌≡◌, ℕ, List, Option, true, length}
use Rattle.ix_pattern.specs.Rows.{Rows}
use Rattle.ix_pikevm.specs.Attempts.{IsAttemptOn}
use Rattle.ix_pikevm.specs.Finders.{IsFinder, HasRoom}
use Rattle.ix_match.specs.declared.scan_state.ScanState.{ScanState}
use Rattle.ix_match.specs.declared.search.Search.{Search}

-- it is for the pattern with these pieces
pub record IsSearch (rows : Rows) (search : Search) : Type 0 where
  pub finder_is : IsFinder rows search.finder
  pub has_room : HasRoom search.finder search.room

-- and its table has all tests
pub record IsKept (rows : Rows) (search : Search) : Type 0 where
  pub search_is : IsSearch rows search
  pub whole : search.finder.width ≡ length rows

-- and the attempt, where one was begun, stands for these bytes behind that one
pub record KeepsFor (rows : Rows) (kept : ScanState) (before : Option ℕ) (bytes : List ℕ) : Type 0 where
  pub is_kept : IsKept rows kept.search
  pub stands : kept.begun ≡ true → IsAttemptOn rows kept.search.finder.program kept.attempt before bytes
