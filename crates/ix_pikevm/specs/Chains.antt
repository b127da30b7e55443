-- Sequences and alternatives of many parts.
use Rattle.std.specs.Prelude.{◌≡◌, ℕ, ◌≤◌, Bool, true, false, List, [], ◌∷◌}
use Rattle.ix_pattern.specs.Piece.{Piece, seq, either, IsSound}
use Rattle.ix_pattern.specs.Rows.{Rows, piece_at}

abbrev pub join : Bool → Piece → Piece → Piece
join true first rest = seq first rest
join false first rest = either first rest

-- these parts, and then the last one
abbrev pub chained : Bool → Rows → List ℕ → Piece → Piece
chained sequence rows [] last = last
chained sequence rows (part ∷ parts) last = join sequence (piece_at rows part) (chained sequence rows parts last)

abbrev pub AllFit : Rows → ℕ → List ℕ → Type 0
AllFit rows top [] = Unit {0}
AllFit rows top (part ∷ parts) = (part ≤ top) × IsSound (piece_at rows part) × AllFit rows top parts

-- a piece is the chain of these parts and the last one, none of which has a number above the top
pub record IsChain (rows : Rows) (sequence : Bool) (top : ℕ) (parts : List ℕ) (last : ℕ) (whole : Piece) : Type 0 where
  pub is : chained sequence rows parts (piece_at rows last) ≡ whole
  pub fits : AllFit rows top parts
  pub below : last ≤ top
  pub sound : IsSound (piece_at rows last)
