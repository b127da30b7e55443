-- The grammar of patterns: their syntax, how it is spelled, and what it means.
use Rattle.std.specs.Prelude.{◌≡◌, ℕ, ◌+◌, ◌*◌, Bool, true, false, ◌&&◌, ◌||◌, nat_lt, max, List, [], ◌∷◌, ◌++◌, Option, Some, None}
use Rattle.std.specs.Prelude.{unwrap_or, ◌==◌}
use Rattle.ix_pattern.specs.Piece.{Piece, nothing, byte_in, start, finish, word, seq, either, count, group, ahead, least_length}
use Rattle.ix_pattern.specs.declared.tokens.Leaf.{Leaf}
use Rattle.ix_pattern.specs.declared.tokens.Leaf.TheVariants.{Bytes, Start, Finish, Word}
use Rattle.ix_pattern.specs.declared.tokens.Opening.{Opening}
use Rattle.ix_pattern.specs.declared.tokens.Opening.TheVariants.{Capture, Plain, Ahead}
use Rattle.ix_pattern.specs.declared.tokens.Times.{Times}
use Rattle.ix_pattern.specs.declared.tokens.Times.TheVariants.{Maybe, Limited, Unlimited}
use Rattle.ix_pattern.specs.declared.tokens.Repeat.{Repeat}
use Rattle.ix_pattern.specs.declared.tokens.Token.{Token}
use Rattle.ix_pattern.specs.declared.tokens.Token.TheVariants as token
use Rattle.ix_pattern.specs.Tokens.{tokens_of}

-- Alternatives, each a sequence of pieces.
pub data Syntax : Type 0 where
  -- an empty sequence, and no other alternative
  done : Syntax
  -- an empty sequence, and `|` with other alternatives
  bar : Syntax → Syntax
  -- a piece that has none inside, a count if it has one, and what follows it
  leaf : Leaf → Option Repeat → Syntax → Syntax
  -- parentheses, what is inside, a count if they have one, and what follows them
  paren : Opening → Syntax → Option Repeat → Syntax → Syntax

abbrev pub spelled_count : Option Repeat → List Token
spelled_count None = []
spelled_count (Some repeat) = token.Count repeat ∷ []

-- how a syntax is spelled
abbrev pub spelled : Syntax → List Token
spelled done = []
spelled (bar rest) = token.Bar ∷ spelled rest
spelled (leaf l times rest) = token.Leaf l ∷ (spelled_count times ++ spelled rest)
spelled (paren opening inside times rest) =
    token.Open opening ∷ (spelled inside ++ token.Close ∷ (spelled_count times ++ spelled rest))

abbrev pub is_plain_opening : Opening → Bool
is_plain_opening Capture = false
is_plain_opening Plain = true
is_plain_opening (Ahead wanted) = false

-- it has neither a capturing group nor a lookahead
abbrev pub is_plain : Syntax → Bool
is_plain done = true
is_plain (bar rest) = is_plain rest
is_plain (leaf l times rest) = is_plain rest
is_plain (paren opening inside times rest) = is_plain_opening opening && is_plain inside && is_plain rest

-- what is inside may stand there, given whether it is plain
abbrev pub may_hold : Opening → Bool → Bool
may_hold Capture plain = true
may_hold Plain plain = true
may_hold (Ahead wanted) plain = plain

-- what is inside a lookahead is plain
abbrev pub is_allowed : Syntax → Bool
is_allowed done = true
is_allowed (bar rest) = is_allowed rest
is_allowed (leaf l times rest) = is_allowed rest
is_allowed (paren opening inside times rest) = may_hold opening (is_plain inside) && is_allowed inside && is_allowed rest

-- the text is a pattern with this syntax
pub record IsSpelledBy (syntax : Syntax) (text : List ℕ) : Type 0 where
  pub tokens : tokens_of text ≡ Some (spelled syntax)
  pub allowed : is_allowed syntax ≡ true

-- ---- the tree

abbrev pub opened : Opening → ℕ
opened Capture = 1
opened Plain = 0
opened (Ahead wanted) = 0

-- how many capturing groups it has
abbrev pub groups : Syntax → ℕ
groups done = 0
groups (bar rest) = groups rest
groups (leaf l times rest) = groups rest
groups (paren opening inside times rest) = opened opening + groups inside + groups rest

abbrev pub leaf_piece : Leaf → Piece
leaf_piece (Bytes set) = byte_in set
leaf_piece (Start lines) = start lines
leaf_piece (Finish lines) = finish lines
leaf_piece Word = word

abbrev pub least_of : Times → ℕ
least_of Maybe = 0
least_of (Limited least most) = least
least_of (Unlimited least) = least

abbrev pub most_of : Times → Option ℕ
most_of Maybe = Some 1
most_of (Limited least most) = Some most
most_of (Unlimited least) = None

abbrev pub repeated : Piece → Option Repeat → Piece
repeated piece None = piece
repeated piece (Some repeat) = count piece (least_of repeat.times) (most_of repeat.times) repeat.lazy

-- the parentheses with this number, if they capture
abbrev pub paren_piece : Opening → ℕ → Piece → Piece
paren_piece Capture number inside = group number inside
paren_piece Plain number inside = inside
paren_piece (Ahead wanted) number inside = ahead inside wanted

-- the first alternative, if it is not empty, and the others, if there are any
pub record Halves (A : Type 0) : Type 0 where
  pub first : Option A
  pub others : Option A

abbrev pub joined : Piece → Option Piece → Piece
joined piece None = piece
joined piece (Some rest) = seq piece rest

abbrev pub alternatives : Piece → Option Piece → Piece
alternatives first None = first
alternatives first (Some others) = either first others

abbrev pub whole : Halves Piece → Piece
whole h = alternatives (unwrap_or h.first nothing) h.others

-- the pieces of a syntax that stands behind so many opening parentheses of capturing groups
abbrev pub pieces : ℕ → Syntax → Halves Piece
pieces n done = record { first = None; others = None }
pieces n (bar rest) = record { first = None; others = Some (whole (pieces n rest)) }
pieces n (leaf l times rest) =
    let behind : Halves Piece = pieces n rest in
    record { first = Some (joined (repeated (leaf_piece l) times) behind.first); others = behind.others }
pieces n (paren opening inside times rest) =
    let behind : Halves Piece = pieces (n + opened opening + groups inside) rest in
    let piece : Piece = paren_piece opening (n + opened opening) (whole (pieces (n + opened opening) inside)) in
    record { first = Some (joined (repeated piece times) behind.first); others = behind.others }

-- the tree of a whole pattern
abbrev pub tree_of : Syntax → Piece
tree_of syntax = whole (pieces 0 syntax)

-- ---- weight and limits

abbrev pub times_weight : ℕ → Times → ℕ
times_weight weight Maybe = weight + 1
times_weight weight (Limited least most) = max most 1 * (weight + 1) + 1
times_weight weight (Unlimited least) = (least + 1) * (weight + 1)

abbrev pub repeated_weight : ℕ → Option Repeat → ℕ
repeated_weight weight None = weight
repeated_weight weight (Some repeat) = times_weight weight repeat.times

abbrev pub paren_weight : Opening → ℕ → ℕ
paren_weight Capture weight = weight + 2
paren_weight Plain weight = weight
paren_weight (Ahead wanted) weight = 256 * weight + 1

-- two or more alternatives weigh so much more than their sum
abbrev pub alternatives_weight : ℕ → Option ℕ → ℕ → ℕ
alternatives_weight first None more = first
alternatives_weight first (Some others) more = first + others + more

abbrev pub whole_weight : Halves ℕ → ℕ
whole_weight h = alternatives_weight (unwrap_or h.first 1) h.others 1

-- the weight of the first alternative, if it is not empty, and the sum of the others', if there are
-- any
abbrev pub weights : Syntax → Halves ℕ
weights done = record { first = None; others = None }
weights (bar rest) =
    let behind : Halves ℕ = weights rest in
    record { first = None; others = Some (alternatives_weight (unwrap_or behind.first 1) behind.others 0) }
weights (leaf l times rest) =
    let behind : Halves ℕ = weights rest in
    record { first = Some (repeated_weight 1 times + unwrap_or behind.first 0); others = behind.others }
weights (paren opening inside times rest) =
    let behind : Halves ℕ = weights rest in
    record {
      first = Some (repeated_weight (paren_weight opening (whole_weight (weights inside))) times + unwrap_or behind.first 0);
      others = behind.others;
    }

abbrev pub weight_of : Syntax → ℕ
weight_of syntax = whole_weight (weights syntax)

-- how deep the parentheses nest
abbrev pub depth : Syntax → ℕ
depth done = 0
depth (bar rest) = depth rest
depth (leaf l times rest) = depth rest
depth (paren opening inside times rest) = max (depth inside + 1) (depth rest)

-- a number of a count is above 1,000
abbrev pub is_high_times : Times → Bool
is_high_times Maybe = false
is_high_times (Limited least most) = nat_lt 1000 least || nat_lt 1000 most
is_high_times (Unlimited least) = nat_lt 1000 least

abbrev pub is_high : Option Repeat → Bool
is_high None = false
is_high (Some repeat) = is_high_times repeat.times

abbrev pub counts_high : Syntax → Bool
counts_high done = false
counts_high (bar rest) = counts_high rest
counts_high (leaf l times rest) = is_high times || counts_high rest
counts_high (paren opening inside times rest) = is_high times || counts_high inside || counts_high rest

-- a count, more than 32 groups, parentheses deeper than 64, or the weight is above its limit
abbrev pub is_too_large : Syntax → Bool
is_too_large syntax =
    counts_high syntax || nat_lt 32 (groups syntax) || nat_lt 64 (depth syntax) || nat_lt 200000 (weight_of syntax)

abbrev pub is_none : Option ℕ → Bool
is_none None = true
is_none (Some n) = false

-- a piece that may take no byte repeats without a limit
abbrev pub repeats_empty : Piece → Bool
repeats_empty nothing = false
repeats_empty (byte_in set) = false
repeats_empty (start lines) = false
repeats_empty (finish lines) = false
repeats_empty word = false
repeats_empty (seq first rest) = repeats_empty first || repeats_empty rest
repeats_empty (either first other) = repeats_empty first || repeats_empty other
repeats_empty (count inside least most lazy) = repeats_empty inside || (is_none most && (least_length inside == 0))
repeats_empty (group number inside) = repeats_empty inside
repeats_empty (ahead inside wanted) = repeats_empty inside
