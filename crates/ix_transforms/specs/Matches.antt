-- The matches of a pattern in a whole text, sought from the left.
use Rattle.std.specs.Prelude.{ℕ, zero, suc, ◌+◌, ◌-◌, max, List, [], ◌∷◌, length, Option, Some, None}
use Rattle.std.specs.Option.{option_or}
use Rattle.ix_pattern.specs.Ways.{Way, ends_at, edge}
use Rattle.ix_pattern.specs.Rows.{Shape}
use Rattle.ix_match.specs.Matches.{ways_from}
use Rattle.ix_match.specs.declared.first.Found.{Found}

-- the preferred one of the ways from a place on, if there is one; a whole text has no edges
abbrev pub preferred : ℕ → List Way → Option Found
preferred place [] = None
preferred place (ends_at r ∷ ways) = Some (record { start = place; end = r.place; groups = r.groups })
preferred place (edge ∷ ways) = None

-- the match at the least of so many places from a place on
unfoldable pub first_of : ℕ → Shape → List ℕ → ℕ → Option Found
first_of zero p text place = None
first_of (suc n) p text place = option_or (preferred place (ways_from p text place)) (first_of n p text (place + 1))

-- the first match that begins at this place or later, up to and with the text's end
unfoldable pub first : Shape → List ℕ → ℕ → Option Found
first p text from = first_of (length text + 1 - from) p text from

-- where the search goes on: at the end of a match, or behind the byte at which an empty one stands
abbrev pub behind : Found → ℕ
behind f = max f.end (f.start + 1)

-- a match, and those from where the search goes on
abbrev pub and_on : (ℕ → List Found) → Option Found → List Found
and_on later None = []
and_on later (Some f) = f ∷ later (behind f)

-- the matches from a place on, so many at the most
unfoldable pub matches_up_to : ℕ → Shape → List ℕ → ℕ → List Found
matches_up_to zero p text from = []
matches_up_to (suc n) p text from = and_on (λ place. matches_up_to n p text place) (first p text from)

-- the matches from a place on; no two begin at the same place
unfoldable pub matches : Shape → List ℕ → ℕ → List Found
matches p text from = matches_up_to (length text + 1) p text from
