-- A reader of tokens from the last to the first.
use Rattle.std.specs.Prelude.{if◌then◌else◌, List, [], ◌∷◌, Option, Some, None}
use Rattle.ix_pattern.specs.declared.tokens.Repeat.{Repeat}
use Rattle.ix_pattern.specs.declared.tokens.Opening.{Opening}
use Rattle.ix_pattern.specs.declared.tokens.Token.{Token}
use Rattle.ix_pattern.specs.declared.tokens.Token.TheVariants.{Leaf, Open, Close, Bar, Count}
use Rattle.ix_pattern.specs.Tokens.{◌>>=◌}
use Rattle.ix_pattern.specs.Syntax.{Syntax, done, bar, leaf, paren, may_hold, is_plain}

-- what has been read of one level of parentheses: its syntax, and before that a count whose piece
-- is still to come
pub data Level : Type 0 where
  level : Option Repeat → Syntax → Level

-- the innermost level, and those around it
pub data State : Type 0 where
  state : Level → List Level → State

abbrev pub opened_level : Opening → Syntax → List Level → Option State
opened_level opening inside [] = None
opened_level opening inside (level times rest ∷ outer) =
    if may_hold opening (is_plain inside) then Some (state (level None (paren opening inside times rest)) outer) else None

abbrev pub step : Token → State → Option State
step (Leaf l) (state (level times rest) outer) = Some (state (level None (leaf l times rest)) outer)
step Bar (state (level None rest) outer) = Some (state (level None (bar rest)) outer)
step Bar (state (level (Some times) rest) outer) = None
step (Count repeat) (state (level None rest) outer) = Some (state (level (Some repeat) rest) outer)
step (Count repeat) (state (level (Some times) rest) outer) = None
step Close (state here outer) = Some (state (level None done) (here ∷ outer))
step (Open opening) (state (level None inside) outer) = opened_level opening inside outer
step (Open opening) (state (level (Some times) inside) outer) = None

abbrev pub run : List Token → Option State
run [] = Some (state (level None done) [])
run (t ∷ tokens) = run tokens >>= step t

-- the syntax, where all parentheses are closed and no count is left over
abbrev pub syntax_of : State → Option Syntax
syntax_of (state (level None syntax) []) = Some syntax
syntax_of (state (level (Some times) syntax) outer) = None
syntax_of (state (level None syntax) (here ∷ outer)) = None
