-- What the walk over bytes that have come keeps.
use Rattle.std.specs.Prelude.{◌≡◌, ℕ, ◌-◌, Bool, List, ◌++◌, Option, take, drop}
use Rattle.std.specs.List.{flat_map}
use Rattle.ix_base.specs.Stream.{Dated, bytes_of}
use Rattle.ix_lines.specs.Walk.{BreakFinder, Walked, preceded, walk}
use Rattle.ix_lines.specs.Lines.{line_of}
use Rattle.ix_lines.specs.Kept.{Keeps}
use Rattle.ix_lines.specs.Seek.{last_byte}
use Rattle.ix_lines.specs.declared.kept.Kept.{Kept}
use Rattle.ix_base.specs.declared.events.Line.{Line}

-- the members of a list from one place up to another
abbrev pub part : {A : Type 0} → ℕ → ℕ → List A → List A
part from to xs = take (to - from) (drop from xs)

-- The walk `whole` has come so far: what was written, what is kept of the open line, whose other
-- bytes begin at `start`, and the walk from `at` on.
pub record CameTo (look : BreakFinder) (u : Bool) (t : ℕ) (whole : Walked) (first : Option ℕ) (all : List Dated)
    (start at : ℕ) (kept : Kept) (old new : List Line) : Type 0 where
  pub stretch : List Dated
  pub done : List (List Dated)
  pub keeps : Keeps t stretch kept
  pub written : new ≡ old ++ flat_map (line_of t) done
  pub walk_on : whole ≡ preceded done (walk look u (last_byte first (bytes_of (take at all))) (stretch
      ++ part start at all) 0 (drop at all))

-- the walk stopped here
pub record Settles (t : ℕ) (w : Walked) (before : Option ℕ) (kept : Kept) (left : List Dated) (old new : List Line) : Type 0 where
  pub keeps : Keeps t w.rest kept
  pub before_is : before ≡ w.before
  pub left_is : left ≡ w.pending
  pub written : new ≡ old ++ flat_map (line_of t) w.done
