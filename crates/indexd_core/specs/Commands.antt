-- Which words are commands of the program.
use Rattle.std.specs.Prelude.{◌≡◌, ℕ, Bool, true, false, List, Option, Some, None, is_some}
use Rattle.ix_base.specs.Clocks.{Moments}
use Rattle.indexd_cli.specs.Orders.{Asked, preview, btool, feed, serve, monitor, buckets, export, roll, thaw, tick, selftest, asked}
use Rattle.indexd_settings.specs.Layers.{file_named}
use Rattle.indexd_run.specs.declared.task.Task.{Task}
use Rattle.indexd_run.specs.declared.task.Task.TheVariants as tasks
use Rattle.indexd_core.specs.Prepared.{Stated}

-- the program does what is asked
abbrev pub is_built : Option Asked → Bool
is_built None = false
is_built (Some (preview host source sourcetype index store)) = true
is_built (Some (btool file)) = is_some (file_named file)
is_built (Some feed) = true
is_built (Some (serve port requests)) = true
is_built (Some (monitor close)) = true
is_built (Some buckets) = true
is_built (Some (export index range)) = true
is_built (Some (roll index)) = true
is_built (Some (thaw index id)) = true
is_built (Some tick) = true
is_built (Some (selftest seed count)) = true

abbrev pub is_command : List (List ℕ) → Bool
is_command words = is_built (asked words)

-- the words ask for a preview that stores nothing
abbrev pub AskPreview : List (List ℕ) → Stated → Type 0
AskPreview words stated = asked words ≡ Some (preview stated.host stated.source stated.sourcetype stated.index false)

-- the words ask for the settings of a file
abbrev pub AskBtool : List (List ℕ) → List ℕ → Type 0
AskBtool words file = asked words ≡ Some (btool file)

-- the words ask for a preview that stores its events
abbrev pub AskStore : List (List ℕ) → Stated → Type 0
AskStore words stated = asked words ≡ Some (preview stated.host stated.source stated.sourcetype stated.index true)

-- the words ask for requests to be served from the input
abbrev pub AskFeed : List (List ℕ) → Type 0
AskFeed words = asked words ≡ Some feed

-- the words ask for so many connections to be served on a port
abbrev pub AskServe : List (List ℕ) → ℕ → ℕ → Type 0
AskServe words port requests = asked words ≡ Some (serve port requests)

-- the words ask for a pass over watched files, behind which their channels are ended or not
abbrev pub AskMonitor : List (List ℕ) → Bool → Type 0
AskMonitor words close = asked words ≡ Some (monitor close)

-- the words ask for a selftest
abbrev pub AskSelftest : List (List ℕ) → ℕ → ℕ → Type 0
AskSelftest words seed count = asked words ≡ Some (selftest seed count)

-- what is asked for by a task over a store
abbrev pub asked_for : Task → Asked
asked_for tasks.Buckets = buckets
asked_for (tasks.Export index range) = export index.now range
asked_for (tasks.Roll index) = roll index.now
asked_for (tasks.Thaw index id) = thaw index.now id
asked_for tasks.Tick = tick

-- a task over a store is asked for
abbrev pub is_task : Option Asked → Bool
is_task None = false
is_task (Some (preview host source sourcetype index store)) = false
is_task (Some (btool file)) = false
is_task (Some feed) = false
is_task (Some (serve port requests)) = false
is_task (Some (monitor close)) = false
is_task (Some buckets) = true
is_task (Some (export index range)) = true
is_task (Some (roll index)) = true
is_task (Some (thaw index id)) = true
is_task (Some tick) = true
is_task (Some (selftest seed count)) = false

abbrev pub AskTask : List (List ℕ) → Task → Type 0
AskTask words task = asked words ≡ Some (asked_for task)

-- what is asked for works over a store
abbrev pub is_stored : Option Asked → Bool
is_stored None = false
is_stored (Some (preview host source sourcetype index store)) = store
is_stored (Some (btool file)) = false
is_stored (Some feed) = true
is_stored (Some (serve port requests)) = true
is_stored (Some (monitor close)) = true
is_stored (Some buckets) = true
is_stored (Some (export index range)) = true
is_stored (Some (roll index)) = true
is_stored (Some (thaw index id)) = true
is_stored (Some tick) = true
is_stored (Some (selftest seed count)) = false

-- what is asked for hears a listener
abbrev pub is_heard : Option Asked → Bool
is_heard None = false
is_heard (Some (preview host source sourcetype index store)) = false
is_heard (Some (btool file)) = false
is_heard (Some feed) = false
is_heard (Some (serve port requests)) = true
is_heard (Some (monitor close)) = false
is_heard (Some buckets) = false
is_heard (Some (export index range)) = false
is_heard (Some (roll index)) = false
is_heard (Some (thaw index id)) = false
is_heard (Some tick) = false
is_heard (Some (selftest seed count)) = false
