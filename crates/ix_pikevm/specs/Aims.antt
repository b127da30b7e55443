-- What the instructions of a pattern are for.
use Rattle.std.specs.Prelude.{◌≡◌, ℕ, zero, suc, ◌+◌, ◌*◌, ◌-◌, ◌<◌, ◌≤◌, Bool, true, false, List, [], ◌∷◌, ◌++◌, length, Option, Some}
use Rattle.std.specs.Prelude.{None, slice_get, unwrap_or}
use Rattle.ix_pattern.specs.Piece.{Piece, nothing, byte_in, start, finish, word, seq, either, count, group, ahead, least_length, IsSound}
use Rattle.ix_pattern.specs.Ways.{Text, Reached, Way, ends_at, onward, required, optional, here, is_start, byte_before, byte_ways}
use Rattle.ix_pattern.specs.Ways.{finish_ways, word_ways, ways}
use Rattle.ix_pattern.specs.Rows.{Rows, piece_at}
use Rattle.ix_pikevm.specs.Code.{set_in, sets_of, ended, Targets}
use Rattle.ix_pikevm.specs.declared.code.Instr.{Instr}
use Rattle.ix_pikevm.specs.declared.code.Instr.TheVariants.{Match, Byte, Split, Jump, Begin, Finish, TextStart, TextEnd, Word, Look}
use Rattle.ix_pikevm.specs.Alike.{Like}

-- What is to come: its ways, by the starts of the groups that are open, and a rank.
pub record Aim : Type 0 where
  pub gives : Text → List ℕ → Reached → List Way
  pub rank : ℕ

abbrev pub stop_aim : Aim
stop_aim = record { gives = λ text began r. ends_at r ∷ []; rank = 0 }

abbrev pub aim_at : List Aim → ℕ → Aim
aim_at aims k = unwrap_or (slice_get aims k) stop_aim

-- what a piece adds to the rank of what comes next: that counts only where the piece may take no
-- byte
abbrev pub rest_rank : ℕ → ℕ → ℕ
rest_rank zero k = k
rest_rank (suc n) k = 0

abbrev pub further_size : ℕ → ℕ → Option ℕ → ℕ
further_size s least None = suc s
further_size s least (Some most) = (most - least) * suc s

unfoldable pub size : Piece → ℕ
size nothing = 0
size (byte_in set) = 1
size (start lines) = 1
size (finish lines) = 1
size word = 1
size (seq first rest) = size first + size rest
size (either first other) = suc (size first + size other)
size (count inside least most lazy) = least * size inside + further_size (size inside) least most
size (group number inside) = suc (suc (size inside))
size (ahead inside wanted) = 1

-- a piece, and what comes next
abbrev pub pre : Piece → Aim → Aim
pre piece next = record {
  gives = λ text began r. onward (next.gives text began) (ways piece text r);
  rank = size piece + rest_rank (least_length piece) next.rank;
}

abbrev pub done : Reached → List Way
done r = ends_at r ∷ []

-- so many turns
abbrev pub pre_turns : Piece → ℕ → Aim → Aim
pre_turns inside n next = record {
  gives = λ text began r. onward (next.gives text began) (required (ways inside text) n done r);
  rank = n * size inside + rest_rank (n * least_length inside) next.rank;
}

-- at most so many turns
abbrev pub pre_maybe : Piece → Bool → ℕ → Aim → Aim
pre_maybe inside lazy n next = record {
  gives = λ text began r. onward (next.gives text began) (optional lazy (ways inside text) n r);
  rank = n * suc (size inside) + next.rank;
}

-- any number of turns
abbrev pub pre_star : Piece → Bool → Aim → Aim
pre_star inside lazy next = record {
  gives = λ text began r. onward (next.gives text began) (optional lazy (ways inside text) (suc (length text.bytes)) r);
  rank = suc (size inside) + next.rank;
}

abbrev pub Same : (Text → List ℕ → Reached → List Way) → (Text → List ℕ → Reached → List Way) → Type 0
Same f g = (text : Text) (began : List ℕ) (r : Reached) → r.place ≤ length text.bytes → f text began r ≡ g text began r

pub record Meets (a b : Aim) : Type 0 where
  pub same : Same a.gives b.gives
  pub low : a.rank ≤ b.rank

-- the instruction does what the aim says
abbrev pub IsFor : Rows → List Aim → Aim → Instr → Type 0
IsFor rows aims a Match = Same a.gives (λ text began r. ends_at r ∷ [])
IsFor rows aims a (Byte set next) =
    Same a.gives (λ text began r. onward ((aim_at aims next).gives text began)
    (byte_ways (set_in (sets_of rows) set) text r (slice_get text.bytes r.place)))
IsFor rows aims a (Split x y) =
    Same a.gives (λ text began r. (aim_at aims x).gives text began r ++ (aim_at aims y).gives text began r)
    × ((aim_at aims x).rank < a.rank) × ((aim_at aims y).rank < a.rank)
IsFor rows aims a (Jump x) = Same a.gives (aim_at aims x).gives × ((aim_at aims x).rank < a.rank)
IsFor rows aims a (Begin x) =
    Same a.gives (λ text began r. (aim_at aims x).gives text (r.place ∷ began) r) × ((aim_at aims x).rank < a.rank)
IsFor rows aims a (Finish number x) =
    Same a.gives (λ text began r. let s = ended number r.place r.groups began in
    (aim_at aims x).gives text s.began (record { place = r.place; groups = s.groups }))
    × ((aim_at aims x).rank < a.rank)
IsFor rows aims a (TextStart lines x) =
    Same a.gives (λ text began r. onward ((aim_at aims x).gives text began)
    (here (is_start lines (byte_before text.before text.bytes r.place)) r)) × ((aim_at aims x).rank < a.rank)
IsFor rows aims a (TextEnd lines x) =
    Same a.gives (λ text began r. onward ((aim_at aims x).gives text began) (finish_ways lines text r (slice_get text.bytes r.place)))
    × ((aim_at aims x).rank < a.rank)
IsFor rows aims a (Word x) =
    Same a.gives (λ text began r. onward ((aim_at aims x).gives text began) (word_ways text r (slice_get text.bytes r.place)))
    × ((aim_at aims x).rank < a.rank)
IsFor rows aims a (Look piece x) =
    Same a.gives (λ text began r. onward ((aim_at aims x).gives text began) (ways (piece_at rows piece) text r))
    × ((aim_at aims x).rank < a.rank)

-- the groups do not matter to whether there is a way
abbrev pub Even : Aim → Type 0
Even a = (text : Text) (began starts : List ℕ) (r s : Reached) → r.place ≡ s.place → Like (a.gives text began r) (a.gives text starts s)

-- a lookahead of a pattern
pub record IsAhead (rows : Rows) (piece : ℕ) : Type 0 where
  pub below : piece < length rows
  pub sound : IsSound (piece_at rows piece)
  pub inside : Piece
  pub wanted : Bool
  pub is : piece_at rows piece ≡ ahead inside wanted

-- the pieces that an instruction names
abbrev pub HasRow : Rows → Instr → Type 0
HasRow rows Match = Unit {0}
HasRow rows (Byte set next) = set < length rows
HasRow rows (Split first other) = Unit {0}
HasRow rows (Jump next) = Unit {0}
HasRow rows (Begin next) = Unit {0}
HasRow rows (Finish number next) = Unit {0}
HasRow rows (TextStart lines next) = Unit {0}
HasRow rows (TextEnd lines next) = Unit {0}
HasRow rows (Word next) = Unit {0}
HasRow rows (Look piece next) = IsAhead rows piece

pub record IsRight (rows : Rows) (aims : List Aim) (hole : ℕ → Bool) (n pc : ℕ) (i : Instr) : Type 0 where
  pub is : hole pc ≡ false → IsFor rows aims (aim_at aims pc) i
  pub targets : Targets n i
  pub row : HasRow rows i

-- each instruction but the holes does what its aim says
pub record AreAims (rows : Rows) (aims : List Aim) (hole : ℕ → Bool) (code : List Instr) : Type 0 where
  pub all : length aims ≡ length code
  pub even : (pc : ℕ) → Even (aim_at aims pc)
  pub right : (pc : ℕ) (i : Instr) → slice_get code pc ≡ Some i → IsRight rows aims hole (length code) pc i

pub record Written (rows : Rows) (want : Aim) (aims : List Aim) (hole : ℕ → Bool) (code : List Instr) (begin : ℕ) : Type 0 where
  pub now : List Aim
  pub grown : (more : List Aim) × (now ≡ aims ++ more)
  pub fits : AreAims rows now hole code
  pub within : begin < length now
  pub meets : Meets (aim_at now begin) want

-- what was written begins there, and comes before the next
abbrev pub Writes : Rows → (Aim → Aim) → ℕ → List Instr → List Instr → ℕ → Type 0
Writes rows want next old new begin = (aims : List Aim) (hole : ℕ → Bool) → AreAims rows aims hole old → next < length aims →
    Written rows (want (aim_at aims next)) aims hole new begin

-- the choice between one more turn and what comes next
abbrev pub choice_of : Bool → ℕ → ℕ → Instr
choice_of true more stop = Split stop more
choice_of false more stop = Split more stop
