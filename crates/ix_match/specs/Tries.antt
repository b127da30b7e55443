-- What trying one way after the other comes to.
use Rattle.std.specs.Prelude.{◌≡◌, ℕ, List, [], Some, None}
use Rattle.ix_pattern.specs.Rows.{Shape}
use Rattle.ix_match.specs.Fronts.{IsCandidate}
use Rattle.ix_match.specs.Matches.{ways_from, MatchesAt, IsFirst, LiesIn}
use Rattle.ix_match.specs.declared.compiled.TrialOutcome.{TrialOutcome}
use Rattle.ix_match.specs.declared.compiled.TrialOutcome.TheVariants.{Found, No, From}

-- at one place
abbrev pub IsTriedAt : Shape → List ℕ → ℕ → TrialOutcome → Type 0
IsTriedAt p text place (Found found) = MatchesAt p text place (Some found)
IsTriedAt p text place No = ways_from p text place ≡ []
IsTriedAt p text place (From at) = at ≡ place

-- from a place on: the first match, or a place before which none begins
abbrev pub IsTried : Shape → List ℕ → ℕ → TrialOutcome → Type 0
IsTried p text from (Found found) = IsFirst p text from (Some found)
IsTried p text from No = IsFirst p text from None
IsTried p text from (From at) = IsCandidate p text from (Some at)

-- a match lies in the text
abbrev pub LiesIfFound : List ℕ → ℕ → ℕ → TrialOutcome → Type 0
LiesIfFound text from groups (Found found) = LiesIn text from groups found
LiesIfFound text from groups No = Unit {0}
LiesIfFound text from groups (From at) = Unit {0}
