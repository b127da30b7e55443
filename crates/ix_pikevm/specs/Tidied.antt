-- The histories of threads, written anew.
use Rattle.std.specs.Prelude.{◌≡◌, ℕ, ◌+◌, ◌*◌, ◌-◌, ◌<◌, ◌≤◌, List, [], ◌∷◌, length, Option, Some, None}
use Rattle.ix_pattern.specs.Ways.{Text, Way}
use Rattle.ix_pattern.specs.Rows.{Rows}
use Rattle.ix_pikevm.specs.Code.{Mean, Meaning, Spans, replay, history}
use Rattle.ix_pikevm.specs.Settled.{HasHead}
use Rattle.ix_pikevm.specs.declared.code.Instr.{Instr}
use Rattle.ix_pikevm.specs.declared.cells.Event.{Event}
use Rattle.ix_pikevm.specs.declared.cells.Event.TheVariants.{Began, Ended}
use Rattle.ix_pikevm.specs.declared.cells.Cell.{Cell}
use Rattle.ix_pikevm.specs.declared.cells.Thread.{Thread}
use Rattle.ix_pikevm.specs.declared.cells.Best.{Best}
use Rattle.ix_pikevm.specs.declared.cells.Best.TheVariants.{No, End, More}

-- the groups, by those that had taken part before
abbrev pub Groups : Type 0
Groups = List (Option (ℕ × ℕ))

-- no group that ended has a number above n
abbrev pub AllFit : ℕ → List Event → Type 0
AllFit n [] = Unit {0}
AllFit n (Began place ∷ events) = AllFit n events
AllFit n (Ended number place ∷ events) = (number - 1 < n) × AllFit n events

-- the groups that have taken part since, and those of before where one has not
abbrev pub over : Groups → Groups → Groups
over [] groups = []
over (g ∷ before) [] = g ∷ before
over (g ∷ before) (None ∷ groups) = g ∷ over before groups
over (g ∷ before) (Some span ∷ groups) = Some span ∷ over before groups

-- the trail stands in the cells, and what it comes to by the groups of before is this
pub record ComesTo (cells : List Cell) (trail : ℕ) (spans : Groups → Spans) : Type 0 where
  pub within : trail ≤ length cells
  pub same : (before : Groups) → replay before (history cells trail) ≡ spans before

-- what a trail comes to
abbrev pub comes : List Cell → ℕ → Groups → Spans
comes cells trail before = replay before (history cells trail)

-- the thread goes on from there, and its trail in the new cells comes to the same
pub record IsAnew (old : List Cell) (t : Thread) (new : List Cell) (u : Thread) : Type 0 where
  pub pc : u.pc ≡ t.pc
  pub trail : ComesTo new u.trail (comes old t.trail)

-- thread by thread
abbrev pub AreAnew : List Cell → List Thread → List Cell → List Thread → Type 0
AreAnew old [] new [] = Unit {0}
AreAnew old [] new (u ∷ us) = ⊥
AreAnew old (t ∷ ts) new [] = ⊥
AreAnew old (t ∷ ts) new (u ∷ us) = IsAnew old t new u × AreAnew old ts new us

abbrev pub IsBestAnew : List Cell → Best → List Cell → Best → Type 0
IsBestAnew old No new after = after ≡ No
IsBestAnew old (End place trail) new after = (u : ℕ) × (after ≡ End place u) × ComesTo new u (comes old trail)
IsBestAnew old More new after = after ≡ More

-- the events are of groups up to a number, and so many groups are open behind them
pub record IsNarrow (groups nested : ℕ) (events : List Event) : Type 0 where
  pub fit : AllFit groups events
  pub left : length (replay [] events).began ≤ nested

-- what the threads have come through is
abbrev pub AllNarrow : ℕ → ℕ → List Cell → List Thread → Type 0
AllNarrow groups nested cells [] = Unit {0}
AllNarrow groups nested cells (t ∷ ts) = IsNarrow groups nested (history cells t.trail) × AllNarrow groups nested cells ts

abbrev pub IsBestNarrow : ℕ → ℕ → List Cell → Best → Type 0
IsBestNarrow groups nested cells No = Unit {0}
IsBestNarrow groups nested cells (End place trail) = IsNarrow groups nested (history cells trail)
IsBestNarrow groups nested cells More = Unit {0}

-- so many cells are enough for a number of threads and the best: for each group two, and one for
-- each that is open
abbrev pub room_for : ℕ → ℕ → ℕ → ℕ
room_for threads groups nested = (threads + 1) * (2 * groups + nested)

-- the threads and the best have the head of the ways that they had, whatever pattern and text the
-- code is for
abbrev pub Tidies : List Instr → List Cell → List Thread → Best → List Cell → List Thread → Best → Type 0
Tidies code cells0 stack0 before cells stack after =
    (rows : Rows) (text : Text) (blank : Groups) (mean : Mean) (rank : ℕ → ℕ) → Meaning code rows text blank mean rank →
    (p : ℕ) (goal : Option Way) → HasHead mean blank p cells0 [] stack0 before goal → HasHead mean blank p cells [] stack after goal
