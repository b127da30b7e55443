-- Runs over a store: what each gives to it and writes, by the status with which it ends.
use Rattle.std.specs.Prelude.{◌≡◌, ◌≤◌, ◌++◌, nat_lt, ℕ, Bool, false, List, length, Option, Some, None, Ok, Err, IfSome, codes}
use Rattle.std.specs.Prelude.{decimal}
use Rattle.ix_base.specs.Faults.{Rose}
use Rattle.ix_base.specs.declared.events.ChannelMeta.{ChannelMeta}
use Rattle.ix_base.specs.declared.files.Area.{Area}
use Rattle.ix_base.specs.declared.files.Area.TheVariants.{Meta, Home, Cold, Frozen, Thawed}
use Rattle.ix_base.specs.declared.files.File.{File}
use Rattle.ix_fs.specs.declared.trees.TreeFile.{TreeFile}
use Rattle.ix_disk.specs.declared.disk.Disk.{Ghosts}
use Rattle.ix_state.specs.Taken.{IsTaken}
use Rattle.ix_model.specs.Given.{Chooser}
use Rattle.ix_model.specs.declared.commands.Config.{Config}
use Rattle.ix_replay.specs.Fits.{fits}
use Rattle.indexd_settings.specs.Given.{IsConfigOf}
use Rattle.indexd_settings.specs.Faults.{HasFault}
use Rattle.indexd_settings.specs.Texts.{fault_line}
use Rattle.indexd_settings.specs.declared.faults.ConfigurationFault.{ConfigurationFault}
use Rattle.indexd_run.specs.Opened.{Past, Course, Doing, WhenOpen, HasRun, HasStopped}
use Rattle.indexd_run.specs.Previews.{HasFed, HasTaken}
use Rattle.indexd_run.specs.Tasks.{says, HasDone, HasHalted}
use Rattle.indexd_run.specs.declared.stop.Stop.{Stop}
use Rattle.indexd_run.specs.declared.stop.Stop.TheVariants as stops
use Rattle.indexd_run.specs.declared.task.Task.{Task}
use Rattle.indexd_run.specs.declared.task.Task.TheVariants as tasks
use Rattle.indexd_core.specs.Around.{Around, course_of}
use Rattle.indexd_core.specs.Chain.{MayRun}
use Rattle.indexd_core.specs.Prepared.{Stated, index_or_default, not_found_line}
use Rattle.indexd_core.specs.Locked.{IsLockedOut}
use Rattle.indexd_core.specs.Sides.{Side}
use Rattle.indexd_core.specs.Texts.{status_text, Said}
use Rattle.indexd_core.specs.declared.ends.Named.{Named}
use Rattle.indexd_core.specs.declared.status.Status.{Status}
use Rattle.indexd_core.specs.declared.status.Status.TheVariants.{Done, Memory, Usage, Configuration, Input, DiskFault, Damaged, Output}
use Rattle.indexd_core.specs.declared.status.Status.TheVariants.{ListenerFault, NotFound, TooManyChannels, Unreadable, Endless, Full}
use Rattle.indexd_core.specs.declared.status.Status.TheVariants.{InUse}

-- ---- statuses and their lines

-- What contradicts itself in memory counts as damage of the log. It comes of no disk that stands
-- for a history.
abbrev pub status_of : Stop → Status
status_of stops.Memory = Memory
status_of stops.Disk = DiskFault
status_of (stops.Damaged file at) = Damaged
status_of stops.Inconsistent = Damaged
status_of stops.NotFound = NotFound
status_of stops.TooManyChannels = TooManyChannels
status_of stops.Full = Full
status_of stops.Output = Output
status_of stops.Input = Input
status_of stops.Endless = Endless

abbrev pub area_name : Area → List ℕ
area_name Meta = codes "meta"
area_name Home = codes "home"
area_name Cold = codes "cold"
area_name Frozen = codes "frozen"
area_name Thawed = codes "thawed"

abbrev pub damaged_line : File → ℕ → List ℕ
damaged_line file at =
    codes "indexd: damaged: " ++ area_name file.area ++ codes "/" ++ decimal file.number ++ codes " at " ++ decimal at ++ codes "\n"

-- the file that a store always has
abbrev pub first_log : File
first_log = record { area = Meta; number = 1 }

-- The line of a run that stops, where a command names this.
abbrev pub line_of : List ℕ → Stop → List ℕ
line_of named stops.Memory = status_text Memory
line_of named stops.Disk = status_text DiskFault
line_of named (stops.Damaged file at) = damaged_line file at
line_of named stops.Inconsistent = damaged_line first_log 0
line_of named stops.NotFound = not_found_line named
line_of named stops.TooManyChannels = status_text TooManyChannels
line_of named stops.Full = status_text Full
line_of named stops.Output = status_text Output
line_of named stops.Input = status_text Input
line_of named stops.Endless = status_text Endless

-- an index, and perhaps the number of a bucket
abbrev pub named_by : List ℕ → Option ℕ → List ℕ
named_by index None = index
named_by index (Some id) = index ++ codes " " ++ decimal id

abbrev pub named_of : Named → List ℕ
named_of named = named_by named.index.now named.id

-- what stands behind the index in the line of what was not found
abbrev pub tail_of : Option ℕ → List ℕ
tail_of None = codes "\n"
tail_of (Some id) = codes " " ++ decimal id ++ codes "\n"

-- what a task names
abbrev pub named_in : Task → List ℕ
named_in tasks.Buckets = codes ""
named_in (tasks.Export index range) = index.now
named_in (tasks.Roll index) = index.now
named_in (tasks.Thaw index id) = named_by index.now (Some id)
named_in tasks.Tick = codes ""

-- ---- runs

-- Whatever the images at the start stand for: some history of commands, of which each has the first
-- so many at least, and some least run. A premise that nothing meets would make all that is said so
-- empty: whoever adds one to `MayRun` shows in `indexd_premises` what meets it.
abbrev pub FromStart : {D : Type 0} → Ghosts D → D → (Past → Type 0) → Type 0
FromStart d disk comes = (past : Past) → MayRun d past disk → comes past

-- What a run gives and writes, by how it ends. Done: it is as `whole` says. Stopped: the side is
-- what the output was before the line of the stop; it is as `part` says, where nothing was given
-- behind the settings `untouched` holds, and `wrote` in any case.
pub record Outcomes : Type 1 where
  pub whole : Chooser → Doing
  pub untouched : Side → Type 0
  pub part : Stop → Side → Chooser → Doing
  pub wrote : Stop → Side → Type 0

-- A run that comes to this, with the line of its status, where a command names this. Done: every
-- image at the exit has all commands. Stopped: so it is, or where the disk is at fault every image
-- has those that were mounted. In neither case has any image lost what was there at the start.
pub data Comes (status : Status) {D : Type 0} (d : Ghosts D) (run : Course D) (named : List ℕ) (to : Outcomes) (output' : Side) : Type 0
  where
    done : status ≡ Done →
        FromStart d run.before (λ past. HasRun false d IsTaken fits past
        (WhenOpen past.choose run.config run.ahead (to.whole past.choose)) run.before run.disk) →
        Comes status d run named to output'
    stopped : (stop : Stop) (middle : Side) → status ≡ status_of stop →
        FromStart d run.before (λ past. HasStopped stop d IsTaken fits past run (to.untouched middle) (to.part stop middle past.choose)) →
        to.wrote stop middle → Said (line_of named stop) middle output' → Comes status d run named to output'

-- Nothing was done but to read the settings: at `Configuration` the line of the first fault of the
-- files was written. The two numbers are how often the tree had failed before and after.
abbrev pub WroteUnread : Status → Option (List TreeFile) → ℕ → ℕ → Side → Side → Type 0
WroteUnread Done files failed failed' output output' = ⊥
WroteUnread Memory files failed failed' output output' = Said (status_text Memory) output output'
WroteUnread Usage files failed failed' output output' = ⊥
WroteUnread Configuration files failed failed' output output' =
    (fault : ConfigurationFault) × HasFault files fault × Said (fault_line fault) output output'
WroteUnread Input files failed failed' output output' = Rose failed failed' × Said (status_text Input) output output'
WroteUnread DiskFault files failed failed' output output' = ⊥
WroteUnread Damaged files failed failed' output output' = ⊥
WroteUnread Output files failed failed' output output' = ⊥
WroteUnread ListenerFault files failed failed' output output' = ⊥
WroteUnread NotFound files failed failed' output output' = ⊥
WroteUnread TooManyChannels files failed failed' output output' = ⊥
WroteUnread Unreadable files failed failed' output output' = ⊥
WroteUnread Endless files failed failed' output output' = ⊥
WroteUnread Full files failed failed' output output' = ⊥
WroteUnread InUse files failed failed' output output' = ⊥

-- A whole run: it stops before the settings are read, where all is `still` but the tree; or once
-- they are read it is not given the store, and the line of that was written; or it runs with those
-- of the files.
pub data Whole (status : Status) {D : Type 0} (from to : Around D) (still out : Type 0) (comes : Config → Type 0) : Type 0 where
  unread : still → WroteUnread status from.files from.failed to.failed from.output to.output → Whole status from to still out comes
  locked_out : (config : Config) → IsConfigOf from.files config → out → Said (status_text status) from.output to.output →
      Whole status from to still out comes
  ran : (config : Config) → IsConfigOf from.files config → comes config → Whole status from to still out comes

-- ---- tasks

-- A run of a task with these settings. One that stops has written nothing before its line but where
-- `says` allows it.
abbrev pub TaskComes : Status → {D : Type 0} → Ghosts D → Course D → Task → Side → Side → Type 0
TaskComes status d run task output output' = Comes status d run (named_in task) (record {
  whole = λ choose. HasDone d choose task run.ahead' output.told output'.told run.disk;
  untouched = λ middle. middle.told ≡ output.told;
  part = λ stop middle choose. HasHalted d choose task stop run.ahead' output.told middle.told run.disk;
  wrote = λ stop middle. says task stop ≡ false → middle.told ≡ output.told;
}) output'

abbrev pub Tasked : Status → Task → {D : Type 0} → Ghosts D → Around D → Around D → Type 0
Tasked status task d from to =
    Whole status from to ((to.ahead ≡ from.ahead) × (to.disk ≡ from.disk)) ((to.ahead ≡ from.ahead) × IsLockedOut status d from.disk to.disk)
    (λ config. TaskComes status d (course_of config from to) task from.output to.output)

-- ---- an input that is stored

-- the texts of the words have at most 1,024 bytes, but for the index
pub record AreShort (stated : Stated) : Type 0 where
  pub host : length stated.host ≤ 1024
  pub source : length stated.source ≤ 1024
  pub sourcetype : IfSome stated.sourcetype (λ (name : List ℕ). length name ≤ 1024)

-- an index is stated, and its name is longer than that of any index
abbrev pub is_long : Option (List ℕ) → Bool
is_long None = false
is_long (Some index) = nat_lt 1024 (length index)

-- what is known of it
abbrev pub stated_meta : Stated → ChannelMeta
stated_meta stated = record { host = stated.host; source = stated.source; sourcetype = stated.sourcetype; index = stated.index }

-- A run that stores an input with these settings. One that stops writes nothing but its line, and
-- says how much it has read.
abbrev pub InputComes : Status → {D : Type 0} → Ghosts D → Course D → Stated → Side → Side → Side → Side → Type 0
InputComes status d run stated input input' output output' =
    Comes status d run (named_by (index_or_default stated.index run.config.limits) None) (record {
      whole = λ choose. HasFed choose (stated_meta stated) (Ok tt) run.ahead' input.told input'.told;
      untouched = λ middle. input'.told ≡ input.told;
      part = λ stop middle choose. HasFed choose (stated_meta stated) (Err stop) run.ahead' input.told input'.told;
      wrote = λ stop middle. (middle ≡ output) × HasTaken (Err stop) input.told input'.told;
    }) output'

-- One that is done has read the input to its end, and has written nothing.
pub record Silent (input input' output output' : Side) : Type 0 where
  pub taken : HasTaken (Ok tt) input.told input'.told
  pub same : output' ≡ output

abbrev pub Stored : Status → Stated → {D : Type 0} → Ghosts D → Around D → Around D → Type 0
Stored status stated d from to =
    Whole status from to ((to.ahead ≡ from.ahead) × (to.input ≡ from.input) × (to.disk ≡ from.disk))
    ((to.ahead ≡ from.ahead) × (to.input ≡ from.input) × IsLockedOut status d from.disk to.disk)
    (λ config. InputComes status d (course_of config from to) stated from.input to.input from.output to.output
    × (status ≡ Done → Silent from.input to.input from.output to.output))
