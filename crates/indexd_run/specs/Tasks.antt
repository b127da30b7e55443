-- The commands of the program that work on a store: what each gives to it, and what it writes.
use Rattle.std.specs.Prelude.{◌≡◌, ◌⊎◌, ◌++◌, ◌==◌, ◌&&◌, ◌||◌, ℕ, ℤ, Bool, true, false, if◌then◌else◌, bytes_eq, List, [], ◌∷◌, codes}
use Rattle.std.specs.Prelude.{decimal, Option, Some, None, Result, Ok, Err}
use Rattle.ix_items.specs.declared.items.Entry.{Entry}
use Rattle.ix_life.specs.declared.views.View.{View}
use Rattle.ix_model.specs.Bounds.{IsAllowed, IsRefused}
use Rattle.ix_model.specs.Given.{Chooser}
use Rattle.ix_model.specs.Judged.{moved}
use Rattle.ix_model.specs.Shown.{view}
use Rattle.ix_model.specs.State.{State}
use Rattle.ix_model.specs.Step.{state_after, effective}
use Rattle.ix_model.specs.declared.answers.Refusal.{Refusal}
use Rattle.ix_model.specs.declared.commands.Command.{Command}
use Rattle.ix_model.specs.declared.commands.Command.TheVariants as commands
use Rattle.ix_model.specs.declared.commands.TimedCommand.{TimedCommand}
use Rattle.ix_base.specs.Clocks.{Moments}
use Rattle.ix_base.specs.Told.{HasWritten, HasBegun}
use Rattle.ix_base.specs.declared.events.Range.{Range}
use Rattle.ix_disk.specs.Image.{Image}
use Rattle.ix_disk.specs.declared.disk.Disk.{Ghosts}
use Rattle.ix_export.specs.Lines.{text as lines}
use Rattle.ix_store.specs.Exporting.{is_seen, exported}
use Rattle.ix_report.specs.Listing.{listing}
use Rattle.ix_report.specs.Names.{closed_name}
use Rattle.ix_run.specs.Giving.{given_all}
use Rattle.indexd_run.specs.Asked.{Asks}
use Rattle.indexd_run.specs.Opened.{Giving}
use Rattle.indexd_run.specs.Stops.{of_refusal, is_output}
use Rattle.indexd_run.specs.declared.stop.Stop.{Stop}
use Rattle.indexd_run.specs.declared.stop.Stop.TheVariants as stops
use Rattle.indexd_run.specs.declared.task.Task.{Task}
use Rattle.indexd_run.specs.declared.task.Task.TheVariants as tasks

-- ---- what is given

abbrev pub command_in : Task → Option Command
command_in tasks.Buckets = None
command_in (tasks.Export index range) = None
command_in (tasks.Roll index) = Some (commands.Roll index.now)
command_in (tasks.Thaw index id) = Some (commands.Thaw index.now id)
command_in tasks.Tick = Some commands.Tick

abbrev pub orders_by : Option Command → ℤ → List TimedCommand
orders_by None moment = []
orders_by (Some command) moment = record { command = command; moment = moment } ∷ []

abbrev pub orders_in : Task → ℤ → List TimedCommand
orders_in task moment = orders_by (command_in task) moment

-- all was given, or perhaps nothing
abbrev pub GaveAll : Bool → List TimedCommand → List TimedCommand → Type 0
GaveAll true all orders = orders ≡ all
GaveAll false all orders = (orders ≡ []) ⊎ (orders ≡ all)

-- a run that is done has given all, and so has one whose output failed; another stop leaves all or
-- nothing
abbrev pub Gave : {T : Type 0} → Result T Stop → List TimedCommand → List TimedCommand → Type 0
Gave (Ok done) all orders = orders ≡ all
Gave (Err stop) all orders = GaveAll (is_output stop) all orders

-- ---- why it is not

-- the store refuses a command so
abbrev pub IsRefusedSo : Chooser → List TimedCommand → Option Command → ℤ → Stop → Type 0
IsRefusedSo choose history None moment stop = ⊥
IsRefusedSo choose history (Some command) moment stop =
    (refusal : Refusal) × (stop ≡ of_refusal refusal) × IsRefused choose false 0 (state_after choose history)
    (record { command = command; moment = moment }) refusal

-- why an export stops
abbrev pub IsUnexported : Chooser → List TimedCommand → List ℕ → Stop → Type 0
IsUnexported choose history index stops.Memory = Unit {0}
IsUnexported choose history index stops.Disk = Unit {0}
IsUnexported choose history index (stops.Damaged file at) = Unit {0}
IsUnexported choose history index stops.Inconsistent = ⊥
IsUnexported choose history index stops.NotFound = is_seen (state_after choose history) index ≡ false
IsUnexported choose history index stops.TooManyChannels = ⊥
IsUnexported choose history index stops.Full = ⊥
IsUnexported choose history index stops.Output = Unit {0}
IsUnexported choose history index stops.Input = ⊥
IsUnexported choose history index stops.Endless = ⊥

-- an index that is to be exported is neither configured nor ever had a bucket
abbrev pub IsUnseen : Chooser → List TimedCommand → Task → Type 0
IsUnseen choose history tasks.Buckets = ⊥
IsUnseen choose history (tasks.Export index range) = is_seen (state_after choose history) index.now ≡ false
IsUnseen choose history (tasks.Roll index) = ⊥
IsUnseen choose history (tasks.Thaw index id) = ⊥
IsUnseen choose history tasks.Tick = ⊥

-- Why a task stops. Disk and output count their faults, and memory may be short at any time.
abbrev pub IsWhy : Chooser → List TimedCommand → Task → ℤ → Stop → Type 0
IsWhy choose history task moment stops.Memory = Unit {0}
IsWhy choose history task moment stops.Disk = Unit {0}
IsWhy choose history task moment (stops.Damaged file at) = Unit {0}
IsWhy choose history task moment stops.Inconsistent = ⊥
IsWhy choose history task moment stops.NotFound = IsUnseen choose history task
    ⊎ IsRefusedSo choose history (command_in task) moment stops.NotFound
IsWhy choose history task moment stops.TooManyChannels = ⊥
IsWhy choose history task moment stops.Full = IsRefusedSo choose history (command_in task) moment stops.Full
IsWhy choose history task moment stops.Output = Unit {0}
IsWhy choose history task moment stops.Input = ⊥
IsWhy choose history task moment stops.Endless = ⊥

-- there is no such cause: its index is seen, and its command is allowed
abbrev pub IsFine : Chooser → List TimedCommand → Task → ℤ → Type 0
IsFine choose history tasks.Buckets moment = Unit {0}
IsFine choose history (tasks.Export index range) moment = is_seen (state_after choose history) index.now ≡ true
IsFine choose history (tasks.Roll index) moment = IsAllowed choose false 0 (state_after choose history)
    (record { command = commands.Roll index.now; moment = moment })
IsFine choose history (tasks.Thaw index id) moment = IsAllowed choose false 0 (state_after choose history)
    (record { command = commands.Thaw index.now id; moment = moment })
IsFine choose history tasks.Tick moment = IsAllowed choose false 0 (state_after choose history)
    (record { command = commands.Tick; moment = moment })

-- how many buckets a command moves
abbrev pub moved_by : State → Option Command → ℤ → ℕ
moved_by m None moment = 0
moved_by m (Some command) moment = moved m command (effective m.last moment)

-- ---- what is written

abbrev pub counted : List ℕ → ℕ → List ℕ
counted word count = word ++ decimal count ++ codes "\n"

-- the first entry of a bucket in the ledger: a bucket is frozen once
abbrev pub is_of : List ℕ → ℕ → Entry → Bool
is_of index id entry = bytes_eq entry.index index && (entry.id == id)

abbrev pub entry_of : List ℕ → ℕ → List Entry → Option Entry
entry_of index id [] = None
entry_of index id (entry ∷ entries) = if is_of index id entry then Some entry else entry_of index id entries

abbrev pub thawed : Entry → List ℕ
thawed entry = codes "thawed " ++ closed_name entry.newest entry.oldest entry.id ++ codes "\n"

abbrev pub IsThawed : Option Entry → List ℕ → Type 0
IsThawed None text = ⊥
IsThawed (Some entry) text = text ≡ thawed entry

-- the text of a command, by what is seen of the store then and how many buckets were moved
abbrev pub IsText : Task → View → ℕ → List ℕ → Type 0
IsText tasks.Buckets view count text = text ≡ listing view
IsText (tasks.Export index range) view count text = text ≡ []
IsText (tasks.Roll index) view count text = text ≡ counted (codes "rolled ") count
IsText (tasks.Thaw index id) view count text = IsThawed (entry_of index.now id view.ledger) text
IsText tasks.Tick view count text = text ≡ counted (codes "frozen ") count

-- what is said of a text: it was written, or a front of it was
abbrev pub Writing : Type 1
Writing = List ℕ → Option (List ℕ) → Option (List ℕ) → Type 0

-- the text of a command that was given behind a history
pub record HasSaid (writes : Writing) (choose : Chooser) (history : List TimedCommand) (task : Task) (moment : ℤ)
    (out out' : Option (List ℕ)) : Type 0 where
  pub text : List ℕ
  pub is_text : IsText task (view (state_after choose (given_all choose history (orders_in task moment))))
      (moved_by (state_after choose history) (command_in task) moment) text
  pub written : writes text out out'

-- the lines of the events that the history put into an index, where the disk tells what it reads
abbrev pub HasExported : Writing → {D : Type 0} → Ghosts D → Chooser → List TimedCommand → List ℕ → Range → D → Option (List ℕ) →
    Option (List ℕ) → Type 0
HasExported writes d choose history index range disk out out' =
    (image : Image) → d.seen disk ≡ Some image → writes (lines range (exported (state_after choose history) index)) out out'

-- what a task writes, of which all was committed on this disk
abbrev pub HasPrinted : Writing → {D : Type 0} → Ghosts D → Chooser → List TimedCommand → Task → ℤ → D → Option (List ℕ) → Option (List ℕ) →
    Type 0
HasPrinted writes d choose history tasks.Buckets moment disk out out' = HasSaid writes choose history tasks.Buckets moment out out'
HasPrinted writes d choose history (tasks.Export index range) moment disk out out' =
    HasExported writes d choose history index.now range disk out out'
HasPrinted writes d choose history (tasks.Roll index) moment disk out out' =
    HasSaid writes choose history (tasks.Roll index) moment out out'
HasPrinted writes d choose history (tasks.Thaw index id) moment disk out out' =
    HasSaid writes choose history (tasks.Thaw index id) moment out out'
HasPrinted writes d choose history tasks.Tick moment disk out out' = HasSaid writes choose history tasks.Tick moment out out'

-- whether something may be written at a stop: by an export, or by an output that failed; else
-- nothing is
abbrev pub is_export : Task → Bool
is_export tasks.Buckets = false
is_export (tasks.Export index range) = true
is_export (tasks.Roll index) = false
is_export (tasks.Thaw index id) = false
is_export tasks.Tick = false

abbrev pub says : Task → Stop → Bool
says task stop = is_export task || is_output stop

-- why nothing is said of a command that was given
abbrev pub IsUnnamed : Task → View → Type 0
IsUnnamed tasks.Buckets view = ⊥
IsUnnamed (tasks.Export index range) view = ⊥
IsUnnamed (tasks.Roll index) view = ⊥
IsUnnamed (tasks.Thaw index id) view = entry_of index.now id view.ledger ≡ None
IsUnnamed tasks.Tick view = ⊥

abbrev pub IsUnsaid : Task → View → Stop → Type 0
IsUnsaid task view stop = (stop ≡ stops.Memory) ⊎ ((stop ≡ stops.Output) ⊎ ((stop ≡ stops.Inconsistent) × IsUnnamed task view))

-- ---- the whole

-- A task was given behind what there was, at the moment that the clock told for it alone, and its
-- text was written. The disk is that at the exit.
pub record HasDone {D : Type 0} (d : Ghosts D) (choose : Chooser) (task : Task) (ahead' : Option Moments) (out out' : Option (List ℕ))
    (disk : D) (was : Giving) : Type 0 where
  pub moment : ℤ
  pub orders_are : was.orders ≡ orders_in task moment
  pub asked : Asks (orders_in task moment) was.ahead ahead'
  pub fine : IsFine choose was.begun task moment
  pub printed : HasPrinted HasWritten d choose was.begun task moment disk out out'

-- It stopped for its cause: where something was written, it is a front of the text.
pub record HasHalted {D : Type 0} (d : Ghosts D) (choose : Chooser) (task : Task) (stop : Stop) (ahead' : Option Moments)
    (out out' : Option (List ℕ)) (disk : D) (was : Giving) : Type 0 where
  pub moment : ℤ
  pub orders_are : GaveAll (is_output stop) (orders_in task moment) was.orders
  pub asked : Asks (orders_in task moment) was.ahead ahead'
  pub why : IsWhy choose was.begun task moment stop
  pub printed : says task stop ≡ true → HasPrinted HasBegun d choose was.begun task moment disk out out'
