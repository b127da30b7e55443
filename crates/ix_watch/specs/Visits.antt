-- What a visit of one watched file gives to a store, and what it comes to.
use Rattle.std.specs.Prelude.{◌≡◌, ◌≤◌, ◌<◌, ◌+◌, ◌&&◌, ℕ, Bool, true, false, if◌then◌else◌, List, [], ◌∷◌, ◌++◌, length, take, drop, map}
use Rattle.std.specs.Prelude.{Option, Some, None, codes, decimal}
use Rattle.std.specs.List.{flat_map}
use Rattle.ix_base.specs.Told.{IsFrontOf}
use Rattle.ix_base.specs.declared.events.Spot.{Spot}
use Rattle.ix_monitor.specs.Steps.{plan}
use Rattle.ix_monitor.specs.declared.steps.Seen.{Seen}
use Rattle.ix_monitor.specs.declared.steps.Step.{Step}
use Rattle.ix_monitor.specs.declared.steps.Step.TheVariants.{Skip, From, Again}
use Rattle.ix_monitor.specs.declared.watched.Watched.{Watched}
use Rattle.ix_model.specs.declared.commands.Command.{Command}
use Rattle.ix_model.specs.declared.commands.Command.TheVariants.{Begin, Block, End}
use Rattle.ix_model.specs.declared.commands.TimedCommand.{TimedCommand}
use Rattle.ix_watch.specs.declared.visited.Visited.{Visited}
use Rattle.ix_watch.specs.declared.visited.Visited.TheVariants.{Missing, Skipped, ReadOn, ReadAgain}
use Rattle.ix_watch.specs.Watching.{channel_of, command_of, AllFollow, IsKept}

-- ---- blocks

abbrev pub joined : List (List ℕ) → List ℕ
joined blocks = flat_map (λ (block : List ℕ). block) blocks

-- each block is full, but the last one, which is what is left
abbrev pub IsFull : List ℕ → Type 0
IsFull block = length block ≡ 1048576

abbrev pub AreBlocks : List (List ℕ) → Type 0
AreBlocks [] = Unit {0}
AreBlocks (block ∷ []) = (0 < length block) × (length block ≤ 1048576)
AreBlocks (block ∷ next ∷ blocks) = IsFull block × AreBlocks (next ∷ blocks)

-- ---- the commands of a visit

-- What is found of a file: how many bytes it has and the first of them, and in blocks those that
-- are read.
pub record Found : Type 0 where
  pub seen : Seen
  pub blocks : List (List ℕ)

-- the commands that open the channel, where it is not open; and those that open it anew
abbrev pub begins : Watched → Bool → List Command
begins file true = []
begins file false = Begin (channel_of file.path) file.meta ∷ []

abbrev pub begins_anew : Watched → Bool → List Command
begins_anew file true = End (channel_of file.path) ∷ begins file false
begins_anew file false = begins file false

-- those that add blocks from a place of the file on, each with the spot behind it
abbrev pub spot_at : List ℕ → List ℕ → ℕ → Spot
spot_at path head offset = record { path = path; head = head; offset = offset }

abbrev pub added : List ℕ → List ℕ → ℕ → List ℕ → Command
added path head place block = Block (channel_of path) block (Some (spot_at path head (place + length block)))

abbrev pub adds : List ℕ → List ℕ → ℕ → List (List ℕ) → List Command
adds path head place [] = []
adds path head place (block ∷ blocks) = added path head place block ∷ adds path head (place + length block) blocks

-- the one that ends it
abbrev pub ends : Watched → Bool → List Command
ends file true = End (channel_of file.path) ∷ []
ends file false = []

-- All commands of a visit, by whether the channel is open before, and whether it is to be ended.
abbrev pub visit_by : Step → Watched → Found → Bool → Bool → List Command
visit_by Skip file found is_open close = ends file (is_open && close)
visit_by (From place) file found is_open close = begins file is_open
    ++ (adds file.path found.seen.head place found.blocks ++ ends file close)
visit_by Again file found is_open close = begins_anew file is_open ++ (adds file.path found.seen.head 0 found.blocks ++ ends file close)

abbrev pub visit : Watched → Option Spot → Found → Bool → Bool → List Command
visit file kept found is_open close = visit_by (plan found.seen kept) file found is_open close

-- there are none where there is no such file
abbrev pub visit_of : Watched → Option Spot → Option Found → Bool → Bool → List Command
visit_of file kept None is_open close = []
visit_of file kept (Some found) is_open close = visit file kept found is_open close

-- ---- what a visit comes to

abbrev pub visited_by : Step → Found → Visited
visited_by Skip found = Skipped
visited_by (From place) found = ReadOn place (place + length (joined found.blocks))
visited_by Again found = ReadAgain (length (joined found.blocks))

abbrev pub visited_of : Option Spot → Option Found → Visited
visited_of kept None = Missing
visited_of kept (Some found) = visited_by (plan found.seen kept) found

-- the line that tells it; a file that is missing has one where an input names it
abbrev pub read_line : List ℕ → List ℕ → ℕ → ℕ → List ℕ
read_line path words from to = path ++ words ++ decimal from ++ codes " to " ++ decimal to ++ codes "\n"

abbrev pub line : Watched → Visited → List ℕ
line file Missing = if file.named then file.path ++ codes " missing\n" else []
line file Skipped = file.path ++ codes " skip\n"
line file (ReadOn from to) = read_line file.path (codes " from ") from to
line file (ReadAgain to) = read_line file.path (codes " again from ") 0 to

-- ---- what is read, of any tree

-- where what a step reads ends
abbrev pub end_by : Step → Found → ℕ
end_by Skip found = 0
end_by (From place) found = place + length (joined found.blocks)
end_by Again found = length (joined found.blocks)

-- What is read ends within the size first seen, and is cut into blocks that are full but for the
-- last one.
pub record IsRead (kept : Option Spot) (found : Found) : Type 0 where
  pub sizes : AreBlocks found.blocks
  pub within : end_by (plan found.seen kept) found ≤ found.seen.size

-- ---- where the tree tells the bytes

abbrev pub seen_of : List ℕ → Seen
seen_of bytes = record { size = length bytes; head = take 256 bytes }

-- the bytes that a step reads
abbrev pub read_by : Step → List ℕ → List ℕ
read_by Skip bytes = []
read_by (From place) bytes = drop place bytes
read_by Again bytes = bytes

-- What is found of a file that has these bytes; all of them are read, or a first part where the
-- visit is stopped.
pub record IsFound (bytes : List ℕ) (kept : Option Spot) (found : Found) : Type 0 where
  pub seen : found.seen ≡ seen_of bytes
  pub read : IsFrontOf (joined found.blocks) (read_by (plan found.seen kept) bytes)

-- nothing where there is no file; all that the step reads where the visit is whole
abbrev pub IsFoundIn : Bool → Option Spot → Option Found → Option (List ℕ) → Type 0
IsFoundIn whole kept found None = found ≡ None
IsFoundIn true kept None (Some bytes) = ⊥
IsFoundIn false kept None (Some bytes) = Unit {0}
IsFoundIn whole kept (Some found) (Some bytes) =
    IsFound bytes kept found × (whole ≡ true → joined found.blocks ≡ read_by (plan found.seen kept) bytes)

-- ---- the law

-- The first of the commands of a visit.
pub record IsFrontOfVisit (file : Watched) (kept : Option Spot) (found : Found) (is_open close : Bool) (orders : List TimedCommand) : Type 0
  where
    pub rest : List Command
    pub commands : visit file kept found is_open close ≡ map command_of orders ++ rest

-- A visit of a file in which lies what is kept of it goes on with it, however many of its commands
-- are given.
abbrev pub VisitsFollow : Type 0
VisitsFollow =
    (file : Watched) (bytes : List ℕ) (kept : Option Spot) (found : Found) (is_open close : Bool) (orders : List TimedCommand) →
    IsKept bytes kept → IsFound bytes kept found → IsFrontOfVisit file kept found is_open close orders →
    AllFollow bytes file.path kept (map command_of orders)
