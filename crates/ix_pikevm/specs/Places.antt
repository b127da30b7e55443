-- The first place of a text at which a pattern has a way.
use Rattle.std.specs.Prelude.{◌≡◌, ℕ, false, ◌+◌, ◌<◌, ◌≤◌, List, [], length, Option, Some, None, replicate}
use Rattle.ix_pattern.specs.Ways.{Text, Way, ways}
use Rattle.ix_pattern.specs.Rows.{Shape, tree}
use Rattle.ix_pikevm.specs.Leaf.{at}

-- a whole text
abbrev pub whole : List ℕ → Text
whole bytes = record { before = None; bytes = bytes; unfinished = false }

-- its ways at a place where no group has taken part
abbrev pub ways_at : Shape → Text → ℕ → List Way
ways_at p text place = ways (tree p.rows) text (at place (replicate p.groups None))

-- it has none at the places from the one on to before the other
abbrev pub NoWays : Shape → Text → ℕ → ℕ → Type 0
NoWays p text from to = (place : ℕ) → from ≤ place → place < to → ways_at p text place ≡ []

-- it has none at any of these places, or one of them before that place has one
abbrev pub IsBefore : Shape → Text → ℕ → ℕ → Option ℕ → Type 0
IsBefore p text from to None = NoWays p text from to
IsBefore p text from to (Some end) = (end ≤ to) × (NoWays p text from end → ⊥)

-- the first one from a place on, up to the text's end
abbrev pub IsPlace : Shape → Text → ℕ → Option ℕ → Type 0
IsPlace p text from None = NoWays p text from (length text.bytes + 1)
IsPlace p text from (Some place) = (from ≤ place) × (place ≤ length text.bytes) × NoWays p text from place × (ways_at p text place ≡ [] → ⊥)
