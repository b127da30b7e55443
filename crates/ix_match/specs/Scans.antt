-- What a scan is to its callers, and what it answers.
use Rattle.std.specs.Prelude.{◌≡◌, ◌⊎◌, ℕ, Bool, List, [], ◌++◌, take, Option, Some, None}
use Rattle.ix_pattern.specs.Ways.{Way, ends_at, edge}
use Rattle.ix_pattern.specs.Rows.{Shape}
use Rattle.ix_match.specs.Attempt.{reach}
use Rattle.ix_match.specs.Matches.{LiesIn}
use Rattle.ix_match.specs.declared.scan.Look.{Look}
use Rattle.ix_match.specs.declared.scan.Look.TheVariants.{Found as Ended, No, More}

pub record Scanned : Type 0 where
  -- the pattern that it was made for
  pub pattern : Shape
  -- for each byte, whether a match may begin with it
  pub starts : List Bool
  -- the byte before its text, and the text as far as it was given, since it was made or reset
  pub before : Option ℕ
  pub given : List ℕ

-- Either no byte was given, or the text goes on from what was given, behind the same byte.
abbrev pub GoesOn : Scanned → Option ℕ → List ℕ → Type 0
GoesOn scan before text = (scan.given ≡ []) ⊎ ((scan.before ≡ before) × ((more : List ℕ) × (text ≡ scan.given ++ more)))

-- the scan before any byte was given
abbrev pub emptied : Scanned → Scanned
emptied scan = record scan { before = None; given = [] }

-- the head of the list of ways that an answer stands for
abbrev pub head_of : Look → Option Way
head_of (Ended found) = Some (ends_at (record { place = found.end; groups = found.groups }))
head_of No = None
head_of More = Some edge

-- a match begins where the attempt does
abbrev pub BeginsAtOnce : Look → Type 0
BeginsAtOnce (Ended found) = found.start ≡ 0
BeginsAtOnce No = Unit {0}
BeginsAtOnce More = Unit {0}

-- a match lies in what the attempt sees of these bytes, and has so many groups
abbrev pub LiesInReach : List ℕ → ℕ → Look → Type 0
LiesInReach bytes groups (Ended found) = LiesIn (take reach bytes) 0 groups found
LiesInReach bytes groups No = Unit {0}
LiesInReach bytes groups More = Unit {0}
