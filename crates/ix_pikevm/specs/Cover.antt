-- What is kept while the threads of one place are followed.
use Rattle.std.specs.Prelude.{◌≡◌, ℕ, ◌<◌, nat_lt, if◌then◌else◌, List, [], ◌∷◌, ◌++◌, Option, slice_get}
use Rattle.ix_pattern.specs.Ways.{Way}
use Rattle.ix_pikevm.specs.declared.cells.Thread.{Thread}
use Rattle.ix_pikevm.specs.Code.{list_ways}

-- the ways of the first threads, as long as their ranks are below n
abbrev pub below : (Thread → List Way) → (ℕ → ℕ) → ℕ → List Thread → List Way
below w rank n [] = []
below w rank n (t ∷ ts) = if nat_lt (rank t.pc) n then w t ++ below w rank n ts else []

-- Each thread at a marked instruction has no way, where neither the ready ones nor the waiting ones
-- that came of it have.
abbrev pub Covers : (Thread → List Way) → (ℕ → ℕ) → (ℕ → Type 0) → List Thread → List Thread → Type 0
Covers w rank marked ready waiting =
    (t : Thread) → marked t.pc → list_ways w ready ≡ [] → below w rank (rank t.pc) waiting ≡ [] → w t ≡ []

pub record Kept (w : Thread → List Way) (rank : ℕ → ℕ) (marked : ℕ →
    Type 0) (ready waiting : List Thread) (best : List Way) (goal : Option Way) : Type 0 where
  pub front : slice_get (list_ways w ready ++ (list_ways w waiting ++ best)) 0 ≡ goal
  pub covers : Covers w rank marked ready waiting

-- each has a rank below n
abbrev pub AllUnder : (ℕ → ℕ) → ℕ → List Thread → Type 0
AllUnder rank n [] = Unit {0}
AllUnder rank n (t ∷ ts) = (rank t.pc < n) × AllUnder rank n ts
