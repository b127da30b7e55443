-- What instructions and threads mean.
use Rattle.std.specs.Prelude.{◌≡◌, ℕ, zero, suc, ◌-◌, ◌<◌, ◌≤◌, Bool, List, [], ◌∷◌, ◌++◌, length, Option, Some, slice_get, slice_set}
use Rattle.std.specs.Prelude.{unwrap_or, map}
use Rattle.ix_pattern.specs.Ways.{Text, Way, ends_at, edge, onward, here, is_start, byte_before, byte_ways, finish_ways, word_ways, ways}
use Rattle.ix_pattern.specs.Rows.{Rows, piece_at}
use Rattle.ix_pattern.specs.declared.pattern.Node.{Node}
use Rattle.ix_pattern.specs.declared.pattern.Node.TheVariants.{Nothing, Bytes, Start as NodeStart, Finish as NodeFinish, Word as NodeWord}
use Rattle.ix_pattern.specs.declared.pattern.Node.TheVariants.{Seq, Either, Count, Group, Ahead}
use Rattle.ix_pikevm.specs.Leaf.{at}
use Rattle.ix_pikevm.specs.declared.code.Instr.{Instr}
use Rattle.ix_pikevm.specs.declared.code.Instr.TheVariants.{Match, Byte, Split, Jump, Begin, Finish, TextStart, TextEnd, Word, Look}
use Rattle.ix_pikevm.specs.declared.cells.Event.{Event}
use Rattle.ix_pikevm.specs.declared.cells.Event.TheVariants.{Began, Ended}
use Rattle.ix_pikevm.specs.declared.cells.Cell.{Cell}
use Rattle.ix_pikevm.specs.declared.cells.Thread.{Thread}
use Rattle.ix_pikevm.specs.declared.cells.Best.{Best}
use Rattle.ix_pikevm.specs.declared.cells.Best.TheVariants.{No, End, More}

-- where the groups that are open began, the innermost first, and the spans of those that have ended
pub record Spans : Type 0 where
  pub began : List ℕ
  pub groups : List (Option (ℕ × ℕ))

abbrev pub ended : ℕ → ℕ → List (Option (ℕ × ℕ)) → List ℕ → Spans
ended number place groups [] = record { began = []; groups = groups }
ended number place groups (from ∷ began) =
    record { began = began; groups = slice_set groups (number - 1) (Some (from, place)) }

-- what events, the newest first, come to
abbrev pub replay : List (Option (ℕ × ℕ)) → List Event → Spans
replay groups [] = record { began = []; groups = groups }
replay groups (Began place ∷ events) =
    let s = replay groups events in record { began = place ∷ s.began; groups = s.groups }
replay groups (Ended number place ∷ events) =
    let s = replay groups events in ended number place s.groups s.began

-- the list with the number t: 0 is the empty one
abbrev pub hist_in : List (List Event) → ℕ → List Event
hist_in done zero = []
hist_in done (suc k) = unwrap_or (slice_get done k) []

abbrev pub histories : List (List Event) → List Cell → List (List Event)
histories done [] = done
histories done (cell ∷ cells) = histories (done ++ (cell.event ∷ hist_in done cell.earlier) ∷ []) cells

abbrev pub history : List Cell → ℕ → List Event
history cells trail = hist_in (histories [] cells) trail

abbrev pub Mean : Type 0
Mean = ℕ → List Event → ℕ → List Way

-- the ways behind a test
abbrev pub tested : (ℕ → List Way) → List Way → List Way
tested next ways = onward (λ r. next r.place) ways

abbrev pub set_in : List (List Bool) → ℕ → List Bool
set_in sets k = unwrap_or (slice_get sets k) []

-- the set of a byte piece
abbrev pub set_if : Node → List Bool → List Bool
set_if Nothing set = []
set_if Bytes set = set
set_if (NodeStart lines) set = []
set_if (NodeFinish lines) set = []
set_if NodeWord set = []
set_if (Seq first rest) set = []
set_if (Either first other) set = []
set_if (Count inside least most lazy) set = []
set_if (Group number inside) set = []
set_if (Ahead inside wanted) set = []

-- the sets of all byte pieces, by their numbers
abbrev pub sets_of : Rows → List (List Bool)
sets_of rows = map (λ row. set_if row.0 row.1) rows

-- what an instruction with this number gives, at a place that the text has
abbrev pub Gives : Rows → Text → List (Option (ℕ × ℕ)) → Mean → ℕ → Instr → List Event → ℕ → Type 0
Gives rows text blank mean pc Match h p = mean pc h p ≡ ends_at (record { place = p; groups = (replay blank h).groups }) ∷ []
Gives rows text blank mean pc (Byte set next) h p =
    mean pc h p ≡ tested (mean next h) (byte_ways (set_in (sets_of rows) set) text (at p []) (slice_get text.bytes p))
Gives rows text blank mean pc (Split first other) h p = mean pc h p ≡ mean first h p ++ mean other h p
Gives rows text blank mean pc (Jump next) h p = mean pc h p ≡ mean next h p
Gives rows text blank mean pc (Begin next) h p = mean pc h p ≡ mean next (Began p ∷ h) p
Gives rows text blank mean pc (Finish number next) h p = mean pc h p ≡ mean next (Ended number p ∷ h) p
Gives rows text blank mean pc (TextStart lines next) h p =
    mean pc h p ≡ tested (mean next h) (here (is_start lines (byte_before text.before text.bytes p)) (at p []))
Gives rows text blank mean pc (TextEnd lines next) h p =
    mean pc h p ≡ tested (mean next h) (finish_ways lines text (at p []) (slice_get text.bytes p))
Gives rows text blank mean pc (Word next) h p =
    mean pc h p ≡ tested (mean next h) (word_ways text (at p []) (slice_get text.bytes p))
Gives rows text blank mean pc (Look piece next) h p =
    mean pc h p ≡ tested (mean next h) (ways (piece_at rows piece) text (at p []))

-- what comes next at the same place is of lower rank
abbrev pub Falls : (ℕ → ℕ) → ℕ → Instr → Type 0
Falls rank k Match = Unit {0}
Falls rank k (Byte set next) = Unit {0}
Falls rank k (Split first other) = (rank first < k) × (rank other < k)
Falls rank k (Jump next) = rank next < k
Falls rank k (Begin next) = rank next < k
Falls rank k (Finish number next) = rank next < k
Falls rank k (TextStart lines next) = rank next < k
Falls rank k (TextEnd lines next) = rank next < k
Falls rank k (Word next) = rank next < k
Falls rank k (Look piece next) = rank next < k

-- the numbers of instructions in it are below n
abbrev pub Targets : ℕ → Instr → Type 0
Targets n Match = Unit {0}
Targets n (Byte set next) = next < n
Targets n (Split first other) = (first < n) × (other < n)
Targets n (Jump next) = next < n
Targets n (Begin next) = next < n
Targets n (Finish number next) = next < n
Targets n (TextStart lines next) = next < n
Targets n (TextEnd lines next) = next < n
Targets n (Word next) = next < n
Targets n (Look piece next) = next < n

-- the number of its set is below n
abbrev pub HasSet : ℕ → Instr → Type 0
HasSet n Match = Unit {0}
HasSet n (Byte set next) = set < n
HasSet n (Split first other) = Unit {0}
HasSet n (Jump next) = Unit {0}
HasSet n (Begin next) = Unit {0}
HasSet n (Finish number next) = Unit {0}
HasSet n (TextStart lines next) = Unit {0}
HasSet n (TextEnd lines next) = Unit {0}
HasSet n (Word next) = Unit {0}
HasSet n (Look piece next) = Unit {0}

-- each instruction has these ways
pub record Meaning (code : List Instr) (rows : Rows) (text : Text) (blank : List (Option (ℕ × ℕ))) (mean : Mean) (rank : ℕ →
    ℕ) : Type 0 where
  pub gives : (pc : ℕ) (i : Instr) → slice_get code pc ≡ Some i → (h : List Event) (p : ℕ) → p ≤ length text.bytes →
      Gives rows text blank mean pc i h p
  pub falls : (pc : ℕ) (i : Instr) → slice_get code pc ≡ Some i → Falls rank (rank pc) i
  -- whether there is a way does not depend on what came before
  pub same : (pc p : ℕ) (h k : List Event) → mean pc h p ≡ [] → mean pc k p ≡ []
  -- the ways depend on what came before by the groups that it comes to alone
  pub spans : (pc p : ℕ) (h k : List Event) → replay blank h ≡ replay blank k → mean pc h p ≡ mean pc k p

abbrev pub IsCode : List Instr → Type 0
IsCode code = (pc : ℕ) (i : Instr) → slice_get code pc ≡ Some i → Targets (length code) i

abbrev pub HasSets : ℕ → List Instr → Type 0
HasSets n code = (pc : ℕ) (i : Instr) → slice_get code pc ≡ Some i → HasSet n i

abbrev pub thread_ways : Mean → List Cell → ℕ → Thread → List Way
thread_ways mean cells p t = mean t.pc (history cells t.trail) p

-- the ways of threads, the first preferred
abbrev pub list_ways : (Thread → List Way) → List Thread → List Way
list_ways w [] = []
list_ways w (t ∷ ts) = w t ++ list_ways w ts

abbrev pub best_ways : List (Option (ℕ × ℕ)) → List Cell → Best → List Way
best_ways blank cells No = []
best_ways blank cells (End place trail) = ends_at (record { place = place; groups = (replay blank (history cells trail)).groups }) ∷ []
best_ways blank cells More = edge ∷ []
