-- Moments as runs of equal ones.
use Rattle.std.specs.Prelude.{◌≡◌, ◌≤◌, ℤ, List, length, drop, replicate}
use Rattle.std.specs.List.{flat_map}
use Rattle.ix_lines.specs.declared.moments.Run.{Run}
use Rattle.ix_lines.specs.declared.moments.Cursor.{Cursor}

abbrev pub moments_of : List Run → List ℤ
moments_of runs = flat_map (λ run. replicate run.count run.moment) runs

-- the cursor stands before one of the runs, or behind the last one, and has passed the moments of
-- those before it
pub record PointsInto (runs : List Run) (cursor : Cursor) : Type 0 where
  pub within : cursor.run ≤ length runs
  pub others : drop cursor.passed (moments_of runs) ≡ moments_of (drop cursor.run runs)
