-- A stream and its stretches between breaks, for any way of looking for a break.
use Rattle.std.specs.Prelude.{ℕ, zero, suc, ◌-◌, Bool, List, [], ◌∷◌, ◌++◌, take, drop, Option, Some, None}
use Rattle.ix_base.specs.Stream.{Dated, bytes_of}

-- what an attempt at a place comes to
pub data Look : Type 0 where
  -- where the break begins and where it ends, and where the match ends, all counted from the place
  match : ℕ → ℕ → ℕ → Look
  no_match : Look
  -- it depends on bytes that have not come
  more : Look

-- the byte before the place, the bytes from the place on, and whether more may follow
abbrev pub BreakFinder : Type 0
BreakFinder = Option ℕ → List ℕ → Bool → Look

pub record Walked : Type 0 where
  -- the stretches that a break has ended
  pub done : List (List Dated)
  -- the stretch since the last break, up to the scan place
  pub rest : List Dated
  -- the byte before the scan place, and the bytes from there on
  pub before : Option ℕ
  pub pending : List Dated

abbrev pub preceded : List (List Dated) → Walked → Walked
preceded first w = record w { done = first ++ w.done }

-- By what the attempt at the place comes to: stop there, or go on with the next byte, with what
-- then stands since the last break and with the number of bytes that are still within a match.
abbrev pub after : Option ℕ → List Dated → List Dated → (List Dated → ℕ → Walked) → Look → Walked
after before rest stream next more = record { done = []; rest = rest; before = before; pending = stream }
after before rest stream next no_match = next (rest ++ take 1 stream) 0
after before rest stream next (match from to n) =
    preceded ((rest ++ take from stream) ∷ []) (next (take (n - to) (drop to stream)) (n - 1))

-- The walk of a stream, of which so many bytes are still within the last match, and `rest` has what
-- stands since the last break.
abbrev pub walk : BreakFinder → Bool → Option ℕ → List Dated → ℕ → List Dated → Walked
walk look unfinished before rest within [] = record { done = []; rest = rest; before = before; pending = [] }
walk look unfinished before rest (suc n) (d ∷ stream) = walk look unfinished (Some d.0) rest n stream
walk look unfinished before rest zero (d ∷ stream) =
    after before rest (d ∷ stream) (λ since within. walk look unfinished (Some d.0) since within stream)
    (look before (bytes_of (d ∷ stream)) unfinished)

-- a whole stream
abbrev pub walk_of : BreakFinder → Bool → List Dated → Walked
walk_of look unfinished stream = walk look unfinished None [] 0 stream
