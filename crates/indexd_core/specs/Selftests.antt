-- What `selftest` does, and why a run ends with `Full`.
use Rattle.std.specs.Prelude.{◌≡◌, ℕ, List, Option, Some, None}
use Rattle.ix_base.specs.Faults.{Rose}
use Rattle.ix_base.specs.Told.{HasWritten, HasBegun}
use Rattle.ix_disk.specs.declared.disk.Disk.{Ghosts}
use Rattle.ix_state.specs.Configs.{IsChooser}
use Rattle.ix_replay.specs.Fits.{fits}
use Rattle.indexd_selftest.specs.History.{IsSummary}
use Rattle.indexd_selftest.specs.Full.{HasNoRoomAtAll}
use Rattle.indexd_cli.specs.Orders.{Asked, preview, btool, feed, serve, monitor, buckets, export, roll, thaw, tick, selftest}
use Rattle.indexd_core.specs.Around.{Around}
use Rattle.indexd_core.specs.Blamed.{IsFilled}
use Rattle.indexd_core.specs.Sides.{Side}
use Rattle.indexd_core.specs.Texts.{status_text, Said}
use Rattle.indexd_core.specs.declared.status.Status.{Status}
use Rattle.indexd_core.specs.declared.status.Status.TheVariants.{Done, Memory, Usage, Configuration, Input, DiskFault, Damaged, Output}
use Rattle.indexd_core.specs.declared.status.Status.TheVariants.{ListenerFault, NotFound, TooManyChannels, Unreadable, Endless, Full}
use Rattle.indexd_core.specs.declared.status.Status.TheVariants.{InUse}

-- The summary of the selftest was written: the listing of the state behind its commands. Where the
-- output failed, a front of it. At `Full` the store that it makes has no room for one of its
-- commands, or for one of its two runs.
abbrev pub Tests : Status → ℕ → ℕ → Side → Side → Type 0
Tests Done seed count output output' =
    (text : List ℕ) × IsSummary IsChooser seed count text × HasWritten text output.told output'.told
Tests Memory seed count output output' = Said (status_text Memory) output output'
Tests Usage seed count output output' = ⊥
Tests Configuration seed count output output' = ⊥
Tests Input seed count output output' = ⊥
Tests DiskFault seed count output output' = ⊥
Tests Damaged seed count output output' = ⊥
Tests Output seed count output output' =
    (text : List ℕ) × IsSummary IsChooser seed count text × Rose output.faults output'.faults × HasBegun text output.told output'.told
Tests ListenerFault seed count output output' = ⊥
Tests NotFound seed count output output' = ⊥
Tests TooManyChannels seed count output output' = ⊥
Tests Unreadable seed count output output' = ⊥
Tests Endless seed count output output' = ⊥
Tests Full seed count output output' = HasNoRoomAtAll IsChooser fits seed count × Said (status_text Full) output output'
Tests InUse seed count output output' = ⊥

-- All but the output is as it was: files of settings, moments, input, connections and disk.
abbrev pub OnlyWrites : {D : Type 0} → Around D → Around D → Type 0
OnlyWrites old new = new ≡ record old { output = new.output }

-- Why what is asked for ends with `Full`. A selftest: the store that it makes has no room. Any
-- other command: as the disk read, its store has had its last run, or was mounted.
abbrev pub LacksRoom : Option Asked → {D : Type 0} → Ghosts D → D → Type 0
LacksRoom None d disk = IsFilled d disk
LacksRoom (Some (preview host source sourcetype index store)) d disk = IsFilled d disk
LacksRoom (Some (btool file)) d disk = IsFilled d disk
LacksRoom (Some feed) d disk = IsFilled d disk
LacksRoom (Some (serve port requests)) d disk = IsFilled d disk
LacksRoom (Some (monitor close)) d disk = IsFilled d disk
LacksRoom (Some buckets) d disk = IsFilled d disk
LacksRoom (Some (export index range)) d disk = IsFilled d disk
LacksRoom (Some (roll index)) d disk = IsFilled d disk
LacksRoom (Some (thaw index id)) d disk = IsFilled d disk
LacksRoom (Some tick) d disk = IsFilled d disk
LacksRoom (Some (selftest seed count)) d disk = HasNoRoomAtAll IsChooser fits seed count
