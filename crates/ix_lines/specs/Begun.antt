-- A breaker whose attempt goes on from look to look.
use Rattle.std.specs.Prelude.{◌≡◌, ◌⊎◌, ℕ, ◌<◌, Bool, true, List, length, Option}
use Rattle.ix_pattern.specs.Rows.{Shape}
use Rattle.ix_match.specs.Scans.{Scanned, GoesOn}
use Rattle.ix_lines.specs.declared.breaks.Found.{Found}
use Rattle.ix_lines.specs.declared.breaks.Found.TheVariants.{Break, Stop}

-- what a breaker is to its callers
pub record Breaking : Type 0 where
  pub pattern : Shape
  -- its attempt
  pub scan : Scanned
  -- breaks are counted, and no attempt is made
  pub counts : Bool

-- The attempt was given a byte, or none is made: a look that goes on makes no test.
abbrev pub IsBegun : Breaking → Type 0
IsBegun breaker = (breaker.counts ≡ true) ⊎ (0 < length breaker.scan.given)

-- the attempt goes on with these bytes, and was begun where there are any
pub record Attends (breaker : Breaking) (before : Option ℕ) (bytes : List ℕ) : Type 0 where
  pub goes_on : GoesOn breaker.scan before bytes
  pub begun : 0 < length bytes → IsBegun breaker

-- where the search stopped before the end of so many bytes, an attempt was begun there
abbrev pub StopsBegun : Found → ℕ → Breaking → Type 0
StopsBegun (Break from to end) len breaker = Unit {0}
StopsBegun (Stop at) len breaker = at < len → IsBegun breaker
