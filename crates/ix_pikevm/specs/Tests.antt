-- How a byte is tested against the pieces of a pattern.
use Rattle.std.specs.Prelude.{◌≡◌, ℕ, ◌+◌, ◌*◌, ◌<◌, ◌≤◌, List, length, Bool, false, map, slice_index_or, Option, Some, None}
use Rattle.ix_pattern.specs.Piece.{in_set}
use Rattle.ix_pattern.specs.declared.pattern.Node.{Node}
use Rattle.ix_pattern.specs.Rows.{Rows, one_if_bytes}
use Rattle.ix_pikevm.specs.Code.{set_in, sets_of}
use Rattle.ix_pikevm.specs.declared.table.Tests.{Tests}

-- what each piece answers to a byte
abbrev pub answers_to : Rows → ℕ → List Bool
answers_to rows byte = map (λ set. in_set set byte) (sets_of rows)

-- a row a byte, by its value: what each of n pieces answers to it
abbrev pub IsTable : List Bool → ℕ → Rows → Type 0
IsTable table n rows = (byte k : ℕ) → byte < 256 → k < n → slice_index_or table (byte * n + k) false ≡ in_set (set_in (sets_of rows) k) byte

-- the table is one of that pattern
pub record AreTests (tests : Tests) : Type 0 where
  pub all : length tests.table.now ≡ 256 * tests.width
  pub table : IsTable tests.table.now tests.width tests.pattern.now.rows

-- The steps do not fall, and where the table has all pieces no test counts as one.
pub record Counts (tests : Tests) (old new : ℕ) : Type 0 where
  pub later : old ≤ new
  pub none : tests.width ≡ length tests.pattern.now.rows → new ≡ old

-- how often the piece is asked about a byte: a byte piece once
abbrev pub asked_of : Option Node → ℕ
asked_of None = 0
asked_of (Some node) = one_if_bytes node
