-- The matches of a pattern, told by the words of a search.
use Rattle.std.specs.Prelude.{ℕ, ◌≤◌, List, [], ◌∷◌, Some, None}
use Rattle.ix_pattern.specs.Rows.{Shape}
use Rattle.ix_match.specs.declared.first.Found.{Found}
use Rattle.ix_match.specs.Matches.{IsFirst}
use Rattle.ix_transforms.specs.Matches.{matches, behind}

-- each is the first one from where the search has come to, and behind the last one there is none
abbrev pub AreInTurn : Shape → List ℕ → ℕ → List Found → Type 0
AreInTurn p text from [] = IsFirst p text from None
AreInTurn p text from (f ∷ found) = (from ≤ f.start) × IsFirst p text from (Some f) × AreInTurn p text (behind f) found

abbrev pub MatchesAreInTurn : Type 0
MatchesAreInTurn = (p : Shape) (text : List ℕ) (from : ℕ) → AreInTurn p text from (matches p text from)
