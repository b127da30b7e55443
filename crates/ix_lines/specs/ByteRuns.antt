-- Breaks that are runs of bytes.
use Rattle.std.specs.Prelude.{◌≡◌, ℕ, Bool, false, ◌&&◌, if◌then◌else◌, nat_lt, ◌==◌, List, length, take, take_while, None}
use Rattle.ix_pattern.specs.Piece.{Piece, byte_in, count, group}
use Rattle.ix_pattern.specs.Rows.{Shape, tree}
use Rattle.ix_match.specs.Attempt.{reach}
use Rattle.ix_lines.specs.Walk.{match, no_match, more, BreakFinder}

-- how many bytes that pass the test stand at the front, as far as an attempt sees
abbrev pub run_length : (ℕ → Bool) → List ℕ → ℕ
run_length test bytes = length (take_while test (take reach bytes))

-- a break is a longest run of bytes that pass the test, as far as an attempt sees
abbrev pub runs_by : (ℕ → Bool) → BreakFinder
runs_by test before bytes unfinished =
    let n = run_length test bytes in
    if unfinished && (n == length bytes) && nat_lt n reach then more else if n == 0 then no_match else match 0 n n

-- a group of one or more bytes of a set
abbrev pub run_tree : List Bool → Piece
run_tree set = group 1 (count (byte_in set) 1 None false)

-- the pattern is one, and has no other group
pub record IsByteRun (p : Shape) : Type 0 where
  pub set : List Bool
  pub tree_is : tree p.rows ≡ run_tree set
  pub groups_are : p.groups ≡ 1
