-- What a run writes.
use Rattle.std.specs.Prelude.{◌⊎◌, ℕ, ℤ, Bool, List, [], codes, Option, Some, None}
use Rattle.std.specs.List.{flat_map}
use Rattle.ix_base.specs.Faults.{Rose}
use Rattle.ix_base.specs.Stream.{dated}
use Rattle.ix_base.specs.Told.{HasWritten, HasBegun}
use Rattle.ix_export.specs.EventLine.{line}
use Rattle.ix_base.specs.declared.events.Event.{Event}
use Rattle.ix_base.specs.declared.events.Routed.{Routed}
use Rattle.ix_base.specs.declared.events.Routed.TheVariants.{To, Null}
use Rattle.ix_life.specs.Limits.{route}
use Rattle.ix_life.specs.declared.sets.LimitSet.{LimitSet}
use Rattle.ix_life.specs.declared.sets.Route.{Route}
use Rattle.ix_life.specs.declared.sets.Route.TheVariants as routes
use Rattle.ix_parse.specs.Settled.{settled}
use Rattle.indexd_core.specs.declared.prepare.PreparedPreview.{PreparedPreview}
use Rattle.indexd_core.specs.Sides.{Side}
use Rattle.indexd_core.specs.declared.status.Status.{Status}
use Rattle.indexd_core.specs.declared.status.Status.TheVariants.{Done, Memory, Usage, Configuration, Input, DiskFault, Damaged, Output}
use Rattle.indexd_core.specs.declared.status.Status.TheVariants.{ListenerFault, NotFound, TooManyChannels, Unreadable, Endless, Full}
use Rattle.indexd_core.specs.declared.status.Status.TheVariants.{InUse}

-- Where an event of an index is kept, by how it is routed: in the index itself, in the one for
-- events without an index of their own, or nowhere. The index is the one that the event names once
-- its changes were made.
abbrev pub home_by : LimitSet → List ℕ → Route → Option (List ℕ)
home_by limits index routes.Given = Some index
home_by limits index routes.LastChance = limits.last_chance
home_by limits index routes.Nowhere = None

abbrev pub home : LimitSet → List ℕ → Option (List ℕ)
home limits index = home_by limits index (route limits index)

-- the line of an event in the index that keeps it; none where no index does
abbrev pub kept_line : Event → Option (List ℕ) → List ℕ
kept_line event None = []
kept_line event (Some index) = line (record event { index = index })

-- the line of an event; one that goes to the null queue has none
abbrev pub routed_line : LimitSet → Routed → List ℕ
routed_line limits (To event) = kept_line event (home limits event.index)
routed_line limits Null = []

abbrev pub lines_of : LimitSet → List Routed → List ℕ
lines_of limits routed = flat_map (routed_line limits) routed

-- The lines of the events that are settled of bytes which all come at one moment, the stream being
-- open or closed. `settled` merges the lines of the stream into events, dates these, and changes
-- them, all by the settings; the time of an event is then that of its date, an earlier event's, or
-- the moment.
abbrev pub preview_text : PreparedPreview → ℤ → List ℕ → Bool → List ℕ
preview_text prepared moment bytes closed =
    lines_of prepared.limits (settled prepared.settings prepared.meta (dated bytes moment) closed)

-- the exit status of the program
abbrev pub status_code : Status → ℕ
status_code Done = 0
status_code Memory = 1
status_code Usage = 2
status_code Configuration = 3
status_code Input = 4
status_code DiskFault = 5
status_code Damaged = 6
status_code Output = 7
status_code ListenerFault = 9
status_code NotFound = 10
status_code TooManyChannels = 11
status_code Unreadable = 12
status_code Endless = 13
status_code Full = 17
status_code InUse = 18

-- the line of a status that always has the same one, which stands behind the output
abbrev pub status_text : Status → List ℕ
status_text Done = []
status_text Memory = codes "indexd: want of memory\n"
status_text Usage = codes "indexd: usage\n"
status_text Configuration = []
status_text Input = codes "indexd: input fault\n"
status_text DiskFault = codes "indexd: disk fault\n"
status_text Damaged = []
status_text Output = []
status_text ListenerFault = codes "indexd: listener fault\n"
status_text NotFound = []
status_text TooManyChannels = codes "indexd: too many channels\n"
status_text Unreadable = []
status_text Endless = codes "indexd: endless input\n"
status_text Full = codes "indexd: store full\n"
status_text InUse = codes "indexd: store in use\n"

-- the text stands behind what stood there, or a front of it where the output failed
abbrev pub Said : List ℕ → Side → Side → Type 0
Said text output output' =
    HasWritten text output.told output'.told ⊎ (Rose output.faults output'.faults × HasBegun text output.told output'.told)
