-- What the reader of a pattern keeps of the levels of parentheses that are open.
use Rattle.std.specs.Prelude.{◌≡◌, ℕ, ◌+◌, ◌≤◌, min, Bool, true, false, List, [], ◌∷◌, ◌++◌, Option, Some, None}
use Rattle.ix_pattern.specs.Rows.{Rows, byte_pieces}
use Rattle.ix_pattern.specs.Parts.{IsOptional, IsBelow}
use Rattle.ix_pattern.specs.Syntax.{Syntax, pieces, weights, is_plain, depth, counts_high, groups, opened}
use Rattle.ix_pattern.specs.Run.{Level, level, State, state, step, run}
use Rattle.ix_pattern.specs.declared.reader.Reader.{Reader}
use Rattle.ix_pattern.specs.declared.tokens.Opening.TheVariants.{Capture, Plain, Ahead}
use Rattle.ix_pattern.specs.declared.tokens.Token.{Token}
use Rattle.ix_pattern.specs.declared.tokens.Token.TheVariants.{Leaf, Open, Close, Bar, Count}
use Rattle.ix_pattern.specs.declared.tokens.Repeat.{Repeat}
use Rattle.ix_pattern.specs.declared.frames.Frame.{Frame}

-- the frame stands for this level, which so many opening parentheses of groups are before
pub record IsFrame (rows : Rows) (n : ℕ) (frame : Frame) (times : Option Repeat) (s : Syntax) : Type 0 where
  pub waits : frame.waiting ≡ times
  pub first : IsOptional rows frame.sequence (pieces n s).first (weights s).first
  pub others : IsOptional rows frame.others (pieces n s).others (weights s).others
  pub plain : frame.plain ≡ is_plain s
  pub deep : frame.depth ≡ min (depth s) 65
  pub high : frame.high ≡ counts_high s

-- the frames stand for these levels, the last for the first
abbrev pub AreFrames : Rows → ℕ → List Frame → List Level → Type 0
AreFrames rows n frames [] = frames ≡ []
AreFrames rows n frames (level times s ∷ levels) =
    (outer : List Frame) × (frame : Frame) × (frames ≡ outer ++ frame ∷ []) × IsFrame rows n frame times s
    × AreFrames rows (n + groups s) outer levels

abbrev pub IsReading : Reader → State → Type 0
IsReading reader (state (level times s) levels) =
    IsFrame reader.work.rows reader.opened reader.here times s
    × AreFrames reader.work.rows (reader.opened + groups s) reader.outer.items levels

-- the numbers in a frame are of pieces that there are
pub record Holds (rows : Rows) (frame : Frame) : Type 0 where
  pub sequence : IsBelow rows frame.sequence
  pub others : IsBelow rows frame.others

-- A step that goes on comes to the state that the grammar gives, and one that does not has none.
abbrev pub Goes : Bool → Option State → Reader → Type 0
Goes true None reader = ⊥
Goes true (Some st) reader = IsReading reader st
Goes false None reader = Unit {0}
Goes false (Some st) reader = ⊥

-- how many capturing groups a token opens
abbrev pub opened_by : Token → ℕ
opened_by (Leaf l) = 0
opened_by (Open opening) = opened opening
opened_by Close = 0
opened_by Bar = 0
opened_by (Count repeat) = 0

-- how many pieces without others inside a token is
abbrev pub leaf_of : Token → ℕ
leaf_of (Leaf l) = 1
leaf_of (Open opening) = 0
leaf_of Close = 0
leaf_of Bar = 0
leaf_of (Count repeat) = 0

-- what a reader needs to take the token
pub record CanStep (token : Token) (reader : Reader) : Type 0 where
  pub left : opened_by token ≤ reader.opened
  pub known : reader.opened ≤ reader.work.groups

-- what a step of the token does
pub record Stepped (token : Token) (going : Bool) (old new : Reader) : Type 0 where
  pub goes : (st : State) → IsReading old st → Goes going (step token st) new
  pub left : going ≡ true → new.opened + opened_by token ≡ old.opened
  pub known : new.work.groups ≡ old.work.groups
  pub bytes : byte_pieces new.work.rows ≤ byte_pieces old.work.rows + leaf_of token

-- how many capturing groups the tokens open
abbrev pub captures : List Token → ℕ
captures [] = 0
captures (t ∷ tokens) = opened_by t + captures tokens

-- how many of the tokens are pieces without others inside
abbrev pub leaves : List Token → ℕ
leaves [] = 0
leaves (t ∷ tokens) = leaf_of t + leaves tokens

abbrev pub is_capture : Token → Bool
is_capture (Leaf l) = false
is_capture (Open Capture) = true
is_capture (Open Plain) = false
is_capture (Open (Ahead wanted)) = false
is_capture Close = false
is_capture Bar = false
is_capture (Count repeat) = false

-- the reader came to the state that the tokens give
pub record HasRead (reader : Reader) (tokens : List Token) (st : State) : Type 0 where
  pub run : run tokens ≡ Some st
  pub reading : IsReading reader st

-- The reader has read all tokens. There is none where they lead to no state.
abbrev pub ReadsAll : Option Reader → List Token → Type 0
ReadsAll None tokens = run tokens ≡ None
ReadsAll (Some reader) tokens =
    ((st : State) × HasRead reader tokens st) × (reader.opened ≡ 0) × (reader.work.groups ≡ captures tokens)
    × (byte_pieces reader.work.rows ≤ leaves tokens)
