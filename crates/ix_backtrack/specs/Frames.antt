-- The ways that are still to be tried.
use Rattle.std.specs.Prelude.{◌≡◌, ℕ, ◌<◌, ◌≤◌, List, [], ◌∷◌, ◌++◌, Option, Some, None}
use Rattle.ix_pattern.specs.Ways.{Text, Way, edge}
use Rattle.ix_pattern.specs.Rows.{Rows}
use Rattle.ix_pikevm.specs.Code.{Mean, Meaning, history, best_ways}
use Rattle.ix_pikevm.specs.declared.code.Instr.{Instr}
use Rattle.ix_pikevm.specs.declared.cells.Cell.{Cell}
use Rattle.ix_pikevm.specs.declared.cells.Event.{Event}
use Rattle.ix_pikevm.specs.declared.cells.Best.TheVariants.{End as BestEnd}
use Rattle.ix_backtrack.specs.declared.frames.Frame.{Frame}
use Rattle.ix_backtrack.specs.declared.frames.Turn.{Turn}
use Rattle.ix_backtrack.specs.declared.frames.Turn.TheVariants.{On, Fork, Back, End, Edge}

-- the ways of a frame
abbrev pub frame_ways : Mean → List Cell → Frame → List Way
frame_ways mean cells f = mean f.pc (history cells f.trail) f.place

-- those of a stack, the last frame of which is its top and the preferred one
abbrev pub stack_ways : (Frame → List Way) → List Frame → List Way
stack_ways w [] = []
stack_ways w (f ∷ fs) = stack_ways w fs ++ w f

-- those of what becomes of a frame
abbrev pub turn_ways : Mean → List (Option (ℕ × ℕ)) → List Cell → Frame → Turn → List Way
turn_ways mean blank cells f (On g) = frame_ways mean cells g
turn_ways mean blank cells f (Fork first other) = frame_ways mean cells first ++ frame_ways mean cells other
turn_ways mean blank cells f Back = []
turn_ways mean blank cells f End = best_ways blank cells (BestEnd f.place f.trail)
turn_ways mean blank cells f Edge = edge ∷ []

-- it stands at one of n instructions and at a place of a text of so many bytes, and its trail is
-- one of c cells
pub record IsFrame (n c bytes : ℕ) (f : Frame) : Type 0 where
  pub pc : f.pc < n
  pub trail : f.trail ≤ c
  pub place : f.place ≤ bytes

abbrev pub AreFrames : ℕ → ℕ → ℕ → List Frame → Type 0
AreFrames n c bytes [] = Unit {0}
AreFrames n c bytes (f ∷ fs) = IsFrame n c bytes f × AreFrames n c bytes fs

abbrev pub IsTurn : ℕ → ℕ → ℕ → Turn → Type 0
IsTurn n c bytes (On g) = IsFrame n c bytes g
IsTurn n c bytes (Fork first other) = IsFrame n c bytes first × IsFrame n c bytes other
IsTurn n c bytes Back = Unit {0}
IsTurn n c bytes End = Unit {0}
IsTurn n c bytes Edge = Unit {0}

-- it has the ways of the frame, in each pattern that these are the pieces of; cells may come
abbrev pub Turns : List Instr → Rows → Text → List Cell → Frame → Turn → Type 0
Turns code rows text cells f t =
    (blank : List (Option (ℕ × ℕ))) (mean : Mean) (rank : ℕ → ℕ) → Meaning code rows text blank mean rank → (later : List Cell) →
    frame_ways mean (cells ++ later) f ≡ turn_ways mean blank (cells ++ later) f t

-- those of a frame that may be none
abbrev pub option_ways : (Frame → List Way) → Option Frame → List Way
option_ways w None = []
option_ways w (Some f) = w f

abbrev pub IsIfSome : ℕ → ℕ → ℕ → Option Frame → Type 0
IsIfSome n c bytes None = Unit {0}
IsIfSome n c bytes (Some f) = IsFrame n c bytes f

-- it has the ways of the frame
abbrev pub Glances : List Instr → Rows → Text → Frame → Option Frame → Type 0
Glances code rows text f o =
    (blank : List (Option (ℕ × ℕ))) (mean : Mean) (rank : ℕ → ℕ) → Meaning code rows text blank mean rank → (cells : List Cell) →
    frame_ways mean cells f ≡ option_ways (frame_ways mean cells) o

-- the instruction has no way at the place, whatever came before
abbrev pub Dies : List Instr → Rows → Text → ℕ → ℕ → Type 0
Dies code rows text pc p =
    (blank : List (Option (ℕ × ℕ))) (mean : Mean) (rank : ℕ → ℕ) → Meaning code rows text blank mean rank → (h : List Event) →
    mean pc h p ≡ []

-- it has the ways of the first frame and behind them those of the other
abbrev pub Chooses : List Instr → Rows → Text → Frame → Frame → Turn → Type 0
Chooses code rows text first other t =
    (blank : List (Option (ℕ × ℕ))) (mean : Mean) (rank : ℕ → ℕ) → Meaning code rows text blank mean rank → (cells : List Cell) →
    frame_ways mean cells first ++ frame_ways mean cells other ≡ turn_ways mean blank cells first t

-- the frame and those of the stack have the ways of the instruction where the attempt began
abbrev pub Goes : List Instr → Rows → Text → ℕ → ℕ → List Cell → Frame → List Frame → Type 0
Goes code rows text start place cells f stack =
    (blank : List (Option (ℕ × ℕ))) (mean : Mean) (rank : ℕ → ℕ) → Meaning code rows text blank mean rank → (later : List Cell) →
    mean start [] place ≡ frame_ways mean (cells ++ later) f ++ stack_ways (frame_ways mean (cells ++ later)) stack
