-- What lookaheads come to at a place.
use Rattle.std.specs.Prelude.{◌≡◌, ℕ, [], List, Some, slice_get}
use Rattle.ix_pattern.specs.Ways.{Text, ways}
use Rattle.ix_pattern.specs.Rows.{Rows, piece_at}
use Rattle.ix_pikevm.specs.Leaf.{leaf_ways, at}
use Rattle.ix_pikevm.specs.declared.leaf.Leaf.{Leaf}
use Rattle.ix_pikevm.specs.declared.code.Instr.{Instr}
use Rattle.ix_pikevm.specs.declared.code.Instr.TheVariants.{Look}

-- what stands for a piece is what it comes to at the place
pub record IsLook (looks : List Leaf) (rows : Rows) (text : Text) (p piece : ℕ) : Type 0 where
  pub leaf : Leaf
  pub kept : slice_get looks piece ≡ Some leaf
  pub same : leaf_ways leaf (at p []) ≡ ways (piece_at rows piece) text (at p [])

-- so it is for each lookahead of the code
abbrev pub AreLooks : List Instr → List Leaf → Rows → Text → ℕ → Type 0
AreLooks code looks rows text p = (pc piece next : ℕ) → slice_get code pc ≡ Some (Look piece next) → IsLook looks rows text p piece

abbrev pub HasNoLook : List Instr → Type 0
HasNoLook code = (pc piece next : ℕ) → slice_get code pc ≡ Some (Look piece next) → ⊥
