-- Names of months and weekdays at the front of a text.
use Rattle.std.specs.Prelude.{ℕ, ◌+◌, ◌==◌, List, [], ◌∷◌, take, Option, Some, None, if◌then◌else◌, codes}
use Rattle.std.specs.Char.{to_ascii_lowercase}
use Rattle.ix_dates.specs.Text.{Read, match_some, or_else}

-- the text behind a name that is given in lower case, in either case of its letters
unfoldable pub behind_name : List ℕ → List ℕ → Option (List ℕ)
behind_name [] text = Some text
behind_name (letter ∷ letters) [] = None
behind_name (letter ∷ letters) (b ∷ rest) =
    if to_ascii_lowercase b == letter then behind_name letters rest else None

-- the text behind a name, whole or its first three letters, the longer first
unfoldable pub behind_either : List ℕ → List ℕ → Option (List ℕ)
behind_either name text = or_else (behind_name name text) (behind_name (take 3 name) text)

-- the place of the first of these names that stands there, where the first one has this place
unfoldable pub first_name : List (List ℕ) → ℕ → List ℕ → Read ℕ
first_name [] place text = None
first_name (name ∷ names) place text =
    match_some (behind_either name text) (first_name names (place + 1) text) (λ rest. Some (place, rest))

abbrev pub month_names : List (List ℕ)
month_names =
    codes "january" ∷ codes "february" ∷ codes "march" ∷ codes "april" ∷ codes "may" ∷ codes "june"
    ∷ codes "july" ∷ codes "august" ∷ codes "september" ∷ codes "october" ∷ codes "november" ∷ codes "december" ∷ []

-- a month, from 1
unfoldable pub month : List ℕ → Read ℕ
month text = first_name month_names 1 text

abbrev pub weekday_names : List (List ℕ)
weekday_names =
    codes "monday" ∷ codes "tuesday" ∷ codes "wednesday" ∷ codes "thursday" ∷ codes "friday" ∷ codes "saturday"
    ∷ codes "sunday" ∷ []

-- a weekday, from 1 for Monday
unfoldable pub weekday : List ℕ → Read ℕ
weekday text = first_name weekday_names 1 text
