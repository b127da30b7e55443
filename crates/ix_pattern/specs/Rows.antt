-- A pattern as a list of nodes, each of which names earlier ones by their numbers.
use Rattle.std.specs.Prelude.{ℕ, suc, ◌+◌, ◌-◌, ◌<◌, ◌≤◌, Bool, List, [], ◌∷◌, ◌++◌, length, Option, Some, None, slice_get, unwrap_or, map}
use Rattle.ix_pattern.specs.Piece.{Piece, nothing, byte_in, start, finish, word, seq, either, count, group, ahead, IsSound}
use Rattle.ix_pattern.specs.declared.pattern.Node.{Node}
use Rattle.ix_pattern.specs.declared.pattern.Node.TheVariants.{Nothing, Bytes, Start, Finish, Word, Seq, Either, Count, Group, Ahead}
use Rattle.ix_pattern.specs.declared.pattern.Row.{Row}

-- each node, and the set of a byte piece
abbrev pub Rows : Type 0
Rows = List (Node × List Bool)

-- what a pattern is to its callers
pub record Shape : Type 0 where
  pub rows : Rows
  -- how many capturing groups it has
  pub groups : ℕ
  pub weight : ℕ

abbrev pub rows_of : List Row → Rows
rows_of rows = map (λ row. (row.node, row.set)) rows

abbrev pub piece_in : List Piece → ℕ → Piece
piece_in done k = unwrap_or (slice_get done k) nothing

-- the tree of a node, of the trees of those that it names
abbrev pub made : List Piece → Node → List Bool → Piece
made done Nothing set = nothing
made done Bytes set = byte_in set
made done (Start lines) set = start lines
made done (Finish lines) set = finish lines
made done Word set = word
made done (Seq first rest) set = seq (piece_in done first) (piece_in done rest)
made done (Either first other) set = either (piece_in done first) (piece_in done other)
made done (Count inside least most lazy) set = count (piece_in done inside) least most lazy
made done (Group number inside) set = group number (piece_in done inside)
made done (Ahead inside wanted) set = ahead (piece_in done inside) wanted

-- each tree is made of those before it
abbrev pub pieces_from : List Piece → Rows → List Piece
pieces_from done [] = done
pieces_from done (row ∷ rows) = pieces_from (done ++ made done row.0 row.1 ∷ []) rows

-- the trees of all nodes, in the order of their numbers
abbrev pub pieces : Rows → List Piece
pieces rows = pieces_from [] rows

-- the tree of the node with this number
abbrev pub piece_at : Rows → ℕ → Piece
piece_at rows k = piece_in (pieces rows) k

-- the pattern's tree: that of the last node
abbrev pub tree : Rows → Piece
tree rows = piece_at rows (length rows - 1)

abbrev pub node_of : Option (Node × List Bool) → Option Node
node_of None = None
node_of (Some row) = Some row.0

abbrev pub set_of : Option (Node × List Bool) → List Bool
set_of None = []
set_of (Some row) = row.1

abbrev pub node_at : Rows → ℕ → Option Node
node_at rows k = node_of (slice_get rows k)

-- the set of the byte piece with this number
abbrev pub set_at : Rows → ℕ → List Bool
set_at rows k = set_of (slice_get rows k)

-- The numbers of pieces in a node are below k, and that of a group is from 1 to `groups`.
abbrev pub IsInside : ℕ → Node → ℕ → Type 0
IsInside groups Nothing k = Unit {0}
IsInside groups Bytes k = Unit {0}
IsInside groups (Start lines) k = Unit {0}
IsInside groups (Finish lines) k = Unit {0}
IsInside groups Word k = Unit {0}
IsInside groups (Seq first rest) k = (first < k) × (rest < k)
IsInside groups (Either first other) k = (first < k) × (other < k)
IsInside groups (Count inside least most lazy) k = inside < k
IsInside groups (Group number inside) k = (inside < k) × (0 < number) × (number ≤ groups)
IsInside groups (Ahead inside wanted) k = inside < k

-- so is each node of the list, the first of which has the number k, below its own number
abbrev pub AllInside : ℕ → ℕ → Rows → Type 0
AllInside groups k [] = Unit {0}
AllInside groups k (row ∷ rows) = IsInside groups row.0 k × AllInside groups (suc k) rows

-- one for a byte piece
abbrev pub one_if_bytes : Node → ℕ
one_if_bytes Nothing = 0
one_if_bytes Bytes = 1
one_if_bytes (Start lines) = 0
one_if_bytes (Finish lines) = 0
one_if_bytes Word = 0
one_if_bytes (Seq first rest) = 0
one_if_bytes (Either first other) = 0
one_if_bytes (Count inside least most lazy) = 0
one_if_bytes (Group number inside) = 0
one_if_bytes (Ahead inside wanted) = 0

-- how many byte pieces there are
abbrev pub byte_pieces : Rows → ℕ
byte_pieces [] = 0
byte_pieces (row ∷ rows) = one_if_bytes row.0 + byte_pieces rows

-- what every pattern keeps
pub record IsPattern (shape : Shape) : Type 0 where
  pub rooted : 0 < length shape.rows
  pub inside : AllInside shape.groups 0 shape.rows
  pub sound : IsSound (tree shape.rows)
  pub few_groups : shape.groups ≤ 32
  pub light : shape.weight ≤ 200000
  pub few_bytes : byte_pieces shape.rows ≤ shape.weight
