-- What a continuation leaves as it was.
use Rattle.std.specs.Prelude.{◌≡◌, ℕ, ◌<◌, ◌≤◌, Bool, true, false, List, ◌∷◌, ◌++◌, length, Option}
use Rattle.ix_base.specs.Stream.{Dated}
use Rattle.ix_lines.specs.Walk.{match, no_match, more, BreakFinder}
use Rattle.ix_lines.specs.Lines.{settled, all_lines}
use Rattle.ix_lines.specs.Carry.{carry_of}
use Rattle.ix_base.specs.declared.events.Line.{Line}

-- an answer other than `more` stays as it is when more bytes come or the end does
pub record IsStable (look : BreakFinder) : Type 0 where
  pub sized : (before : Option ℕ) (bytes : List ℕ) (u : Bool) (from to n : ℕ) → look before bytes u ≡ match from to n →
      (from ≤ to) × (to ≤ n) × (0 < n) × (n ≤ length bytes)
  pub match_stays : (before : Option ℕ) (bytes later : List ℕ) (u : Bool) (from to n : ℕ) → look before bytes true ≡ match from to n →
      look before (bytes ++ later) u ≡ match from to n
  pub none_stays : (before : Option ℕ) (bytes later : List ℕ) (u : Bool) → 0 < length bytes → look before bytes true ≡ no_match →
      look before (bytes ++ later) u ≡ no_match

-- a match begins with a byte that passes the test
abbrev pub BeginsBy : BreakFinder → (ℕ → Bool) → Type 0
BeginsBy look test = (before : Option ℕ) (b : ℕ) (bytes : List ℕ) (u : Bool) → b < 256 → test b ≡ false →
    look before (b ∷ bytes) u ≡ no_match

-- an attempt that waits has fewer bytes than it can see
abbrev pub WaitsWithin : BreakFinder → ℕ → Type 0
WaitsWithin look most = (before : Option ℕ) (bytes : List ℕ) (u : Bool) → look before bytes u ≡ more → length bytes < most

-- the lines of an open stream are the first of each continuation's, open or closed
abbrev pub LinesStay : BreakFinder → Type 0
LinesStay look = (t : ℕ) (stream later : List Dated) →
    ((added : List Line) × (settled look t (stream ++ later) ≡ settled look t stream ++ added))
    × ((added : List Line) × (all_lines look t (stream ++ later) ≡ settled look t stream ++ added))

-- one list of lines is added to both
pub record AddSame (first first_longer second second_longer : List Line) : Type 0 where
  pub added : List Line
  pub to_first : first_longer ≡ first ++ added
  pub to_second : second_longer ≡ second ++ added

-- further bytes settle the same lines behind either stream, whether more may come or not, and leave
-- the same to be carried
pub record GoOnAlike (look : BreakFinder) (t : ℕ) (stream other later : List Dated) : Type 0 where
  pub settles : AddSame (settled look t stream) (settled look t (stream ++ later)) (settled look t other) (settled look t (other ++ later))
  pub ends : AddSame (settled look t stream) (all_lines look t (stream ++ later)) (settled look t other) (all_lines look t (other ++ later))
  pub carries : carry_of look t (stream ++ later) ≡ carry_of look t (other ++ later)

-- what is carried of a stream decides what further bytes come to
abbrev pub CarryDecides : BreakFinder → Type 0
CarryDecides look = (t : ℕ) (stream other later : List Dated) → carry_of look t stream ≡ carry_of look t other →
    GoOnAlike look t stream other later
