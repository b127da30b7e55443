-- A pattern as a way of looking for breaks.
use Rattle.std.specs.Prelude.{ℕ, List, [], ◌∷◌, Option, Some, None, slice_get}
use Rattle.ix_pattern.specs.Ways.{Way, ends_at, edge}
use Rattle.ix_pattern.specs.Rows.{Shape}
use Rattle.ix_match.specs.Attempt.{attempt}
use Rattle.ix_lines.specs.Walk.{Look, match, no_match, more, BreakFinder}

-- the span of group 1, else of the least-numbered group that took part, else the empty one at the
-- match's start
abbrev pub break_of : List (Option (ℕ × ℕ)) → ℕ × ℕ
break_of [] = (0, 0)
break_of (None ∷ groups) = break_of groups
break_of (Some span ∷ groups) = span

-- by the head of the ways of an attempt
abbrev pub look_at : Option Way → Look
look_at None = no_match
look_at (Some edge) = more
look_at (Some (ends_at r)) = match (break_of r.groups).0 (break_of r.groups).1 r.place

abbrev pub breaks_by : Shape → BreakFinder
breaks_by p before bytes unfinished =
    look_at (slice_get (attempt p (record { before = before; bytes = bytes; unfinished = unfinished })) 0)
