-- What reading a pattern comes to.
use Rattle.std.specs.Prelude.{◌≡◌, ℕ, ◌≤◌, ◌<◌, true, false, List, length}
use Rattle.ix_pattern.specs.Piece.{least_length}
use Rattle.ix_pattern.specs.Rows.{Shape, tree}
use Rattle.ix_pattern.specs.Syntax.{Syntax, IsSpelledBy, groups, tree_of, weight_of, is_too_large, repeats_empty}

-- the pattern means what the syntax does
pub record IsPatternOf (syntax : Syntax) (shape : Shape) : Type 0 where
  pub tree_is : tree shape.rows ≡ tree_of syntax
  pub groups_are : shape.groups ≡ groups syntax
  pub weight_is : shape.weight ≡ weight_of syntax

-- the text is that of a pattern, and no limit is passed
pub record IsWithinLimits (text : List ℕ) (syntax : Syntax) : Type 0 where
  pub short : length text ≤ 4096
  pub spelled : IsSpelledBy syntax text
  pub small : is_too_large syntax ≡ false

-- the text is read as the pattern of this syntax
pub record IsReadAs (text : List ℕ) (syntax : Syntax) (shape : Shape) : Type 0 where
  pub within : IsWithinLimits text syntax
  pub sound : repeats_empty (tree_of syntax) ≡ false
  pub pattern : IsPatternOf syntax shape

-- the text is longer than 4,096 bytes, or it is a pattern above one of the other limits
pub data IsTooLarge (text : List ℕ) : Type 0 where
  too_long : 4096 < length text → IsTooLarge text
  above : (syntax : Syntax) → IsSpelledBy syntax text → is_too_large syntax ≡ true → IsTooLarge text

-- the text is not in the grammar
pub record IsNoPattern (text : List ℕ) : Type 0 where
  pub short : length text ≤ 4096
  pub none : (syntax : Syntax) → IsSpelledBy syntax text → ⊥

-- a piece that may take no byte repeats without a limit
pub record RepeatsEmpty (text : List ℕ) (syntax : Syntax) : Type 0 where
  pub within : IsWithinLimits text syntax
  pub empty : repeats_empty (tree_of syntax) ≡ true

-- it has no capturing group
pub record HasNoGroup (text : List ℕ) (syntax : Syntax) : Type 0 where
  pub within : IsWithinLimits text syntax
  pub sound : repeats_empty (tree_of syntax) ≡ false
  pub none : groups syntax ≡ 0

-- it may match no byte at all
pub record MayMatchEmpty (text : List ℕ) (syntax : Syntax) : Type 0 where
  pub within : IsWithinLimits text syntax
  pub sound : repeats_empty (tree_of syntax) ≡ false
  pub some : 0 < groups syntax
  pub empty : least_length (tree_of syntax) ≡ 0

-- No text has two syntaxes.
abbrev pub OneSyntax : Type 0
OneSyntax = (text : List ℕ) → (s t : Syntax) → IsSpelledBy s text → IsSpelledBy t text → s ≡ t
