-- What becomes of the ways when an open text is continued or closed.
use Rattle.std.specs.Prelude.{◌≡◌, ℕ, ◌≤◌, true, List, [], ◌∷◌, ◌++◌, length, Option, Some, None}
use Rattle.ix_pattern.specs.Piece.{Piece, IsSound}
use Rattle.ix_pattern.specs.Ways.{Text, Reached, Way, ends_at, edge, ways}

-- the same text with more bytes, or closed
pub record Continues (text longer : Text) : Type 0 where
  pub unfinished : text.unfinished ≡ true
  pub before : longer.before ≡ text.before
  pub more : List ℕ
  pub bytes : longer.bytes ≡ text.bytes ++ more

-- each end stays, and each edge is replaced by a list of ways
abbrev pub Refines : List Way → List Way → Type 0
Refines [] new = new ≡ []
Refines (ends_at r ∷ old) new = (rest : List Way) × (new ≡ ends_at r ∷ rest) × Refines old rest
Refines (edge ∷ old) new = (known : List Way) × (rest : List Way) × (new ≡ known ++ rest) × Refines old rest

abbrev pub EdgesAreReplaced : Type 0
EdgesAreReplaced =
    (piece : Piece) → IsSound piece → (text longer : Text) → Continues text longer →
    (r : Reached) → r.place ≤ length text.bytes → Refines (ways piece text r) (ways piece longer r)

-- a group's span is in order and does not go past this place
abbrev pub InOrder : ℕ → Option (ℕ × ℕ) → Type 0
InOrder place None = Unit {0}
InOrder place (Some span) = (span.0 ≤ span.1) × (span.1 ≤ place)

abbrev pub AllInOrder : ℕ → List (Option (ℕ × ℕ)) → Type 0
AllInOrder place [] = Unit {0}
AllInOrder place (group ∷ groups) = InOrder place group × AllInOrder place groups
