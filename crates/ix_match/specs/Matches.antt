-- The first match in a text.
use Rattle.std.specs.Prelude.{◌≡◌, ℕ, ◌<◌, ◌≤◌, false, List, [], ◌∷◌, length, Option, Some, None, slice_get, replicate}
use Rattle.ix_pattern.specs.Ways.{Text, Way, ends_at, ways}
use Rattle.ix_pattern.specs.Rows.{Shape, tree}
use Rattle.ix_match.specs.declared.first.Found.{Found}

-- a whole text
abbrev pub closed : List ℕ → Text
closed bytes = record { before = None; bytes = bytes; unfinished = false }

-- the ways of a pattern from a place of a whole text on; no group has taken part there
abbrev pub ways_from : Shape → List ℕ → ℕ → List Way
ways_from p text place = ways (tree p.rows) (closed text) (record { place = place; groups = replicate p.groups None })

-- the preferred one of its ways from a place on
abbrev pub MatchesAt : Shape → List ℕ → ℕ → Option Found → Type 0
MatchesAt p text place None = ways_from p text place ≡ []
MatchesAt p text place (Some found) =
    (found.start ≡ place) × (slice_get (ways_from p text place) 0 ≡ Some (ends_at (record { place = found.end; groups = found.groups })))

-- It begins at the least place that has a way, and is the preferred one there.
abbrev pub IsFirst : Shape → List ℕ → ℕ → Option Found → Type 0
IsFirst p text from None = (place : ℕ) → from ≤ place → place ≤ length text → ways_from p text place ≡ []
IsFirst p text from (Some found) =
    ((place : ℕ) → from ≤ place → place < found.start → ways_from p text place ≡ []) × MatchesAt p text found.start (Some found)

-- the span of a group that took part is in order and lies between these places
abbrev pub LiesWithin : ℕ → ℕ → Option (ℕ × ℕ) → Type 0
LiesWithin start end None = Unit {0}
LiesWithin start end (Some span) = (start ≤ span.0) × (span.0 ≤ span.1) × (span.1 ≤ end)

abbrev pub AllWithin : ℕ → ℕ → List (Option (ℕ × ℕ)) → Type 0
AllWithin start end [] = Unit {0}
AllWithin start end (group ∷ groups) = LiesWithin start end group × AllWithin start end groups

-- It lies in the text, and the spans of its groups lie in it.
pub record LiesIn (text : List ℕ) (from count : ℕ) (found : Found) : Type 0 where
  pub begins : from ≤ found.start
  pub order : found.start ≤ found.end
  pub within : found.end ≤ length text
  pub groups : length found.groups ≡ count
  pub spans : AllWithin found.start found.end found.groups
