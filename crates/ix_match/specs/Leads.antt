-- The bytes with which every match begins.
use Rattle.std.specs.Prelude.{◌≡◌, ◌⊎◌, ℕ, ◌+◌, ◌<◌, ◌≤◌, Bool, true, false, List, [], length, Option, Some, None, slice_index}
use Rattle.memchr.specs.Find.{OccursAt}
use Rattle.ix_pattern.specs.Piece.{Piece, byte_in, in_set}
use Rattle.ix_pattern.specs.Ways.{Text, Reached, ways}
use Rattle.ix_pattern.specs.Rows.{Rows, Shape, piece_at}
use Rattle.ix_match.specs.Fronts.{fronts}
use Rattle.ix_match.specs.Matches.{ways_from}
use Rattle.ix_match.specs.declared.leads.Taken.{Taken}
use Rattle.ix_match.specs.declared.leads.Taken.TheVariants.{One, Nothing, Other}

-- each is below 256
abbrev pub AreBytes : List ℕ → Type 0
AreBytes text = (k : ℕ) → slice_index text k < 256

-- every match in a whole text begins with these bytes
abbrev pub EachBegins : Shape → List ℕ → Type 0
EachBegins p bytes = (text : List ℕ) (place : ℕ) → AreBytes text → place ≤ length text → (ways_from p text place ≡ [])
    ⊎ OccursAt text bytes place

-- it takes this byte and no other
pub record TakesOne (piece : Piece) (byte : ℕ) : Type 0 where
  pub set : List Bool
  pub is : piece ≡ byte_in set
  pub only : (c : ℕ) → c < 256 → in_set set c ≡ true → c ≡ byte

-- what a piece takes
abbrev pub Takes : Piece → Taken → Type 0
Takes piece (One byte) = TakesOne piece byte
Takes piece Nothing = fronts piece ≡ []
Takes piece Other = Unit {0}

-- The bytes stand there, and what follows them in the whole piece is the piece `at`: where that has
-- no way behind them, the whole has none.
pub record Begun (text : Text) (r : Reached) (whole at : Piece) (bytes : List ℕ) : Type 0 where
  pub occurs : OccursAt text.bytes bytes r.place
  pub on : ((s : Reached) → s.place ≡ r.place + length bytes → ways at text s ≡ []) → ways whole text r ≡ []

-- so it is at each place of a closed text, or the whole has no way there
abbrev pub Leads : Piece → Piece → List ℕ → Type 0
Leads whole at bytes = (text : Text) (r : Reached) → text.unfinished ≡ false → AreBytes text.bytes → r.place ≤ length text.bytes →
    (ways whole text r ≡ []) ⊎ Begun text r whole at bytes

-- at each place of a closed text where the whole has a way, the bytes stand
abbrev pub Begins : Piece → List ℕ → Type 0
Begins whole bytes = (text : Text) (r : Reached) → text.unfinished ≡ false → AreBytes text.bytes → r.place ≤ length text.bytes →
    (ways whole text r ≡ []) ⊎ OccursAt text.bytes bytes r.place

-- the next piece behind these bytes, if more of them may follow
abbrev pub LeadsTo : Rows → Piece → ℕ → Option ℕ → List ℕ → Type 0
LeadsTo rows whole at None bytes = Begins whole bytes
LeadsTo rows whole at (Some next) bytes = (next < at) × Leads whole (piece_at rows next) bytes
