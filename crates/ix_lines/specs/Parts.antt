-- What a value keeps of a stream.
use Rattle.std.specs.Prelude.{◌≡◌, ℕ, ◌+◌, ◌-◌, ◌<◌, ℤ, Bool, true, false, List, ◌++◌, length, Option, take}
use Rattle.ix_base.specs.Stream.{Dated, bytes_of}
use Rattle.ix_pattern.specs.Piece.{least_length}
use Rattle.ix_pattern.specs.Rows.{Shape, tree}
use Rattle.ix_lines.specs.Walk.{BreakFinder, walk_of}
use Rattle.ix_lines.specs.Breaks.{breaks_by}
use Rattle.ix_lines.specs.Lines.{settled, all_lines}
use Rattle.ix_lines.specs.Kept.{first_moment, AddsSome}
use Rattle.ix_base.specs.declared.events.Line.{Line}

pub record Parts : Type 0 where
  -- the length at which lines are cut
  pub truncate : ℕ
  -- the byte before the scan place, and the bytes from there on with their moments
  pub before : Option ℕ
  pub pending : List Dated
  -- the open line: as many of its bytes as a cut needs, and its moment
  pub kept : List ℕ
  pub moment : Option ℤ
  -- a call found no room, and the value stands for no stream
  pub broken : Bool

-- the parts of a stream
abbrev pub parts_of : BreakFinder → ℕ → List Dated → Parts
parts_of look t stream =
    let w = walk_of look true stream in
    record {
      truncate = t;
      before = w.before;
      pending = w.pending;
      kept = take (t + 1) (bytes_of w.rest);
      moment = first_moment w.rest;
      broken = false;
    }

-- the value stands for the stream
abbrev pub StandsFor : BreakFinder → ℕ → List Dated → Parts → Type 0
StandsFor look t stream parts = parts ≡ parts_of look t stream

-- the lines that the later bytes settle were added
pub record Adds (look : BreakFinder) (t : ℕ) (stream later : List Dated) (old new : List Line) : Type 0 where
  pub added : List Line
  pub settles : settled look t (stream ++ later) ≡ settled look t stream ++ added
  pub written : new ≡ old ++ added

-- some of the lines that the later bytes settle were added, the first ones
pub record AddsPart (look : BreakFinder) (t : ℕ) (stream later : List Dated) (old new : List Line) : Type 0 where
  pub added : List Line
  pub settles : settled look t (stream ++ later) ≡ settled look t stream ++ added
  pub written : AddsSome added old new

-- the lines that the end of the stream settles were added
pub record Ends (look : BreakFinder) (t : ℕ) (stream : List Dated) (old new : List Line) : Type 0 where
  pub added : List Line
  pub settles : all_lines look t stream ≡ settled look t stream ++ added
  pub written : new ≡ old ++ added

-- some of them were added, the first ones
pub record EndsPart (look : BreakFinder) (t : ℕ) (stream : List Dated) (old new : List Line) : Type 0 where
  pub added : List Line
  pub settles : all_lines look t stream ≡ settled look t stream ++ added
  pub written : AddsSome added old new

-- what a value is to its callers
pub record Held : Type 0 where
  -- the pattern of breaks
  pub breaker : Shape
  pub parts : Parts

-- the value has taken in this stream
abbrev pub Holds : List Dated → Held → Type 0
Holds stream lines = StandsFor (breaks_by lines.breaker) lines.parts.truncate stream lines.parts

-- how far the scan place moved on while so many bytes came
abbrev pub moved : Held → ℕ → Held → ℕ
moved old came new = length old.parts.pending + came - length new.parts.pending

-- the pattern has a capturing group, and a match takes a byte
pub record IsBreaker (p : Shape) : Type 0 where
  pub some_group : 0 < p.groups
  pub takes : 0 < least_length (tree p.rows)
