-- The bytes with which a match may begin.
use Rattle.std.specs.Prelude.{◌≡◌, ℕ, zero, suc, ◌<◌, Bool, true, false, ◌||◌, List, [], ◌∷◌, Option}
use Rattle.ix_pattern.specs.Piece.{Piece, nothing, byte_in, start, finish, word, seq, either, count, group, ahead, in_set}
use Rattle.ix_pattern.specs.Rows.{Shape, tree}
use Rattle.ix_match.specs.Attempt.{attempt}

-- A match may begin with the byte: where a piece may take no byte, with any.
unfoldable pub may_begin : Piece → ℕ → Bool
may_begin nothing b = true
may_begin (byte_in set) b = in_set set b
may_begin (start lines) b = true
may_begin (finish lines) b = true
may_begin word b = true
may_begin (seq first rest) b = may_begin first b
may_begin (either first other) b = may_begin first b || may_begin other b
may_begin (count inside zero most lazy) b = true
may_begin (count inside (suc least) most lazy) b = may_begin inside b
may_begin (group number inside) b = may_begin inside b
may_begin (ahead inside wanted) b = true

-- a table of them
abbrev pub AreStarts : Shape → List Bool → Type 0
AreStarts p starts = (b : ℕ) → b < 256 → in_set starts b ≡ may_begin (tree p.rows) b

-- An attempt before another byte has neither an end nor an edge.
abbrev pub OthersBeginNothing : Type 0
OthersBeginNothing = (p : Shape) (before : Option ℕ) (b : ℕ) (bytes : List ℕ) (unfinished : Bool) → may_begin (tree p.rows) b ≡ false →
    attempt p (record { before = before; bytes = b ∷ bytes; unfinished = unfinished }) ≡ []
