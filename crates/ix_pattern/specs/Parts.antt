-- What the reader of a pattern keeps of the pieces that it has made.
use Rattle.std.specs.Prelude.{◌≡◌, ℕ, ◌<◌, ◌≤◌, ◌+◌, nat_lt, min, length, Option, Some, None}
use Rattle.ix_pattern.specs.Piece.{Piece, least_length}
use Rattle.ix_pattern.specs.Rows.{Rows, piece_at, byte_pieces}
use Rattle.ix_pattern.specs.Syntax.{repeats_empty}
use Rattle.ix_pattern.specs.Made.{Made}
use Rattle.ix_pattern.specs.declared.part.Part.{Part}

-- the part stands for a piece with this weight
pub record IsPart (rows : Rows) (part : Part) (piece : Piece) (weight : ℕ) : Type 0 where
  pub below : part.piece < length rows
  pub is : piece_at rows part.piece ≡ piece
  pub measured : part.weight ≡ min weight 200001
  pub takes : part.takes ≡ nat_lt 0 (least_length piece)
  pub empty : part.repeats_empty ≡ repeats_empty piece

-- pieces were added, at most so many of which are byte pieces, and those that were there stay
pub record GrewBy (n : ℕ) (old new : Made) : Type 0 where
  pub groups : new.groups ≡ old.groups
  pub longer : length old.rows < length new.rows + 1
  pub stay : (k : ℕ) → k < length old.rows → piece_at new.rows k ≡ piece_at old.rows k
  pub bytes : byte_pieces new.rows ≤ byte_pieces old.rows + n

-- pieces were added, but no byte pieces
abbrev pub Grew : Made → Made → Type 0
Grew old new = GrewBy 0 old new

-- pieces were added, and the part stands for this one
pub record AddsBy (n : ℕ) (old new : Made) (part : Part) (piece : Piece) (weight : ℕ) : Type 0 where
  pub grew : GrewBy n old new
  pub added : IsPart new.rows part piece weight

abbrev pub Adds : Made → Made → Part → Piece → ℕ → Type 0
Adds old new part piece weight = AddsBy 0 old new part piece weight

-- so does the part where there is one
abbrev pub IsOptional : Rows → Option Part → Option Piece → Option ℕ → Type 0
IsOptional rows None piece weight = (piece ≡ None) × (weight ≡ None)
IsOptional rows (Some part) piece weight = (p : Piece) × (w : ℕ) × (piece ≡ Some p) × (weight ≡ Some w) × IsPart rows part p w

abbrev pub IsBelow : Rows → Option Part → Type 0
IsBelow rows None = Unit {0}
IsBelow rows (Some part) = part.piece < length rows
