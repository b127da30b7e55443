-- Where a match may begin in a whole text.
use Rattle.std.specs.Prelude.{◌≡◌, ℕ, zero, suc, ◌<◌, ◌≤◌, Bool, true, false, not, ◌&&◌, ◌||◌, if◌then◌else◌, List, [], ◌∷◌, ◌++◌, length}
use Rattle.std.specs.Prelude.{Option, Some, None}
use Rattle.ix_pattern.specs.Piece.{Piece, nothing, byte_in, start, finish, word, seq, either, count, group, ahead, in_set}
use Rattle.ix_pattern.specs.declared.pattern.Node.TheVariants.{Bytes}
use Rattle.ix_pattern.specs.Rows.{Rows, Shape, piece_at, tree, node_at, set_at}
use Rattle.ix_match.specs.Matches.{ways_from}
use Rattle.ix_match.specs.declared.first_pieces.FirstPieces.{FirstPieces}
use Rattle.ix_match.specs.declared.first_pieces.Opening.{Opening}
use Rattle.ix_match.specs.declared.first_pieces.Opening.TheVariants.{Byte, Empty, Inside, Sequence, Choice}

-- a match of it may take no byte
unfoldable pub passes : Piece → Bool
passes nothing = true
passes (byte_in set) = false
passes (start lines) = true
passes (finish lines) = true
passes word = true
passes (seq first rest) = passes first && passes rest
passes (either first other) = passes first || passes other
passes (count inside zero most lazy) = true
passes (count inside (suc least) most lazy) = passes inside
passes (group number inside) = passes inside
passes (ahead inside wanted) = true

-- the sets of which a match of it may take its first byte
unfoldable pub fronts : Piece → List (List Bool)
fronts nothing = []
fronts (byte_in set) = set ∷ []
fronts (start lines) = []
fronts (finish lines) = []
fronts word = []
fronts (seq first rest) = fronts first ++ (if passes first then fronts rest else [])
fronts (either first other) = fronts first ++ fronts other
fronts (count inside least most lazy) = fronts inside
fronts (group number inside) = fronts inside
fronts (ahead inside wanted) = []

-- a match of it begins at the start of the text alone, as is seen at its front
unfoldable pub anchored : Piece → Bool
anchored nothing = false
anchored (byte_in set) = false
anchored (start lines) = not lines
anchored (finish lines) = false
anchored word = false
anchored (seq first rest) = anchored first
anchored (either first other) = false
anchored (count inside zero most lazy) = false
anchored (count inside (suc least) most lazy) = anchored inside
anchored (group number inside) = anchored inside
anchored (ahead inside wanted) = false

-- the byte, if there is one, is in one of the sets
abbrev pub in_one : Option ℕ → List (List Bool) → Bool
in_one None sets = false
in_one (Some b) [] = false
in_one (Some b) (set ∷ sets) = in_set set b || in_one (Some b) sets

-- these are byte pieces with these sets
abbrev pub ArePieces : Rows → List ℕ → List (List Bool) → Type 0
ArePieces rows [] [] = Unit {0}
ArePieces rows [] (set ∷ sets) = ⊥
ArePieces rows (k ∷ ks) [] = ⊥
ArePieces rows (k ∷ ks) (set ∷ sets) = (node_at rows k ≡ Some Bytes) × (set_at rows k ≡ set) × ArePieces rows ks sets

-- the answer and what was added are those of the piece
pub record Came (rows : Rows) (piece : ℕ) (old : List ℕ) (empty : Bool) (new : List ℕ) : Type 0 where
  pub passes_is : empty ≡ passes (piece_at rows piece)
  pub pieces : (sets : List (List Bool)) → ArePieces rows old sets → ArePieces rows new (sets ++ fronts (piece_at rows piece))

-- what a piece opens with
abbrev pub Opens : Rows → ℕ → Opening → Type 0
Opens rows at Byte = (node_at rows at ≡ Some Bytes) × (piece_at rows at ≡ byte_in (set_at rows at))
Opens rows at Empty = (passes (piece_at rows at) ≡ true) × (fronts (piece_at rows at) ≡ [])
Opens rows at (Inside inside empty) =
    (inside < at) × (passes (piece_at rows at) ≡ (empty || passes (piece_at rows inside)))
    × (fronts (piece_at rows at) ≡ fronts (piece_at rows inside))
Opens rows at (Sequence first rest) = (first < at) × (rest < at) × (piece_at rows at ≡ seq (piece_at rows first) (piece_at rows rest))
Opens rows at (Choice first other) = (first < at) × (other < at) × (piece_at rows at ≡ either (piece_at rows first) (piece_at rows other))

-- what is known of where a match of the pattern may begin
pub record IsFront (p : Shape) (front : FirstPieces) : Type 0 where
  pub pieces : ArePieces p.rows front.pieces.items (fronts (tree p.rows))
  pub passes_is : front.passes ≡ passes (tree p.rows)
  pub anchored_is : front.anchored ≡ anchored (tree p.rows)

-- no match begins before the candidate, from a place on
abbrev pub IsCandidate : Shape → List ℕ → ℕ → Option ℕ → Type 0
IsCandidate p text place None = (k : ℕ) → place ≤ k → k ≤ length text → ways_from p text k ≡ []
IsCandidate p text place (Some at) = (place ≤ at) × (at ≤ length text) × ((k : ℕ) → place ≤ k → k < at → ways_from p text k ≡ [])
