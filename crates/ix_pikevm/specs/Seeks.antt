-- Whether there is a way at one of many places.
use Rattle.std.specs.Prelude.{◌≡◌, ℕ, ◌<◌, ◌≤◌, nat_lt, if◌then◌else◌, Bool, true, false, List, [], ◌∷◌, ◌++◌, Option, Some, None}
use Rattle.ix_pattern.specs.Ways.{Text}
use Rattle.ix_pattern.specs.Rows.{Rows}
use Rattle.ix_pikevm.specs.Code.{Mean, Meaning}
use Rattle.ix_pikevm.specs.declared.code.Instr.{Instr}
use Rattle.ix_pikevm.specs.declared.cells.Event.{Event}
use Rattle.ix_pikevm.specs.declared.cells.Thread.{Thread}
use Rattle.ix_pikevm.specs.declared.cells.Best.{Best}
use Rattle.ix_pikevm.specs.declared.cells.Best.TheVariants.{No, End, More}

-- the instruction has a way at none of the places from the one on to before the other
abbrev pub NoneFrom : Mean → ℕ → ℕ → ℕ → Type 0
NoneFrom mean start from to = (q : ℕ) → from ≤ q → q < to → mean start [] q ≡ []

-- none of the threads has a way at the place, whatever it has come through
abbrev pub NoneHas : Mean → ℕ → List Thread → Type 0
NoneHas mean p [] = Unit {0}
NoneHas mean p (t ∷ ts) = ((h : List Event) → mean t.pc h p ≡ []) × NoneHas mean p ts

-- the one holds exactly where the other does
pub record Equals (A B : Type 0) : Type 0 where
  pub there : A → B
  pub back : B → A

-- the threads of a place have a way exactly where one of these places has one
abbrev pub Carry : (Rows → Type 0) → List Instr → Text → ℕ → ℕ → ℕ → ℕ → List Thread → Type 0
Carry known code text start from to p threads =
    (rows : Rows) (blank : List (Option (ℕ × ℕ))) (mean : Mean) (rank : ℕ → ℕ) → Meaning code rows text blank mean rank → known rows →
    Equals (NoneFrom mean start from to) (NoneHas mean p threads)

-- one of these places has a way
abbrev pub Have : (Rows → Type 0) → List Instr → Text → ℕ → ℕ → ℕ → Type 0
Have known code text start from to =
    (rows : Rows) (blank : List (Option (ℕ × ℕ))) (mean : Mean) (rank : ℕ → ℕ) → Meaning code rows text blank mean rank → known rows →
    NoneFrom mean start from to → ⊥

-- none of these places has a way
abbrev pub Lack : (Rows → Type 0) → List Instr → Text → ℕ → ℕ → ℕ → Type 0
Lack known code text start from to =
    (rows : Rows) (blank : List (Option (ℕ × ℕ))) (mean : Mean) (rank : ℕ → ℕ) → Meaning code rows text blank mean rank → known rows →
    NoneFrom mean start from to

-- a way was found, or the threads that wait carry on
abbrev pub Turned : (Rows → Type 0) → List Instr → Text → ℕ → ℕ → ℕ → ℕ → List Thread → Bool → Type 0
Turned known code text start from to p ready true = Have known code text start from to
Turned known code text start from to p ready false = Carry known code text start from to p ready

-- none has a way, or one before that place has one
abbrev pub Sought : (Rows → Type 0) → List Instr → Text → ℕ → ℕ → ℕ → Option ℕ → Type 0
Sought known code text start from to None = Lack known code text start from to
Sought known code text start from to (Some end) = (end ≤ to) × Have known code text start from end

-- it stands for a way
abbrev pub is_way : Best → Bool
is_way No = false
is_way (End place trail) = true
is_way More = true

-- a thread that has come through nothing
abbrev pub begun : ℕ → Thread
begun start = record { pc = start; trail = 0 }

abbrev pub forgotten : Thread → Thread
forgotten t = begun t.pc

-- the stack, with a new thread where the place is before that one
abbrev pub begun_at : ℕ → ℕ → ℕ → List Thread → List Thread
begun_at start place to stack = if nat_lt place to then stack ++ begun start ∷ [] else stack
