-- What a run that monitors files leaves.
use Rattle.std.proofs.Common.{◌≡◌, ◌⊎◌, ◌∙◌, ℕ, Bool, false, List, sym, subst, inl, inr}
use Rattle.std.specs.Prelude.{Option, Some, Ok, Err}
use Rattle.ix_fs.specs.declared.trees.TreeFile.{TreeFile}
use Rattle.ix_disk.proofs.Runs.{always_begins, always_still}
use Rattle.ix_disk.specs.Moments.{Always}
use Rattle.ix_disk.specs.declared.disk.Disk.{Ghosts}
use Rattle.ix_monitor.specs.declared.inputs.Input.{Input}
use Rattle.ix_model.specs.declared.commands.Config.{Config}
use Rattle.ix_replay.specs.Fits.{fits}
use Rattle.ix_state.specs.Taken.{IsTaken}
use Rattle.ix_watch.proofs.Following.{longer_is_watched}
use Rattle.ix_watch.proofs.Growing.{watched_is_read}
use Rattle.ix_watch.specs.Watching.{IsWatched}
use Rattle.indexd_run.specs.Opened.{Past, StandsFor, WhenOpen, HasRun, HasStopped}
use Rattle.indexd_monitor.proofs.Growing.{runs_on, stops_on}
use Rattle.indexd_monitor.specs.Growing.{Grows, HasReadNone, HasReadOn}
use Rattle.indexd_monitor.specs.Monitored.{HasMonitored}
use Rattle.indexd_core.proofs.ChainLemmas.{of_same, of_whole, of_comes, not_given, kept_comes, kept_same, kept_whole}
use Rattle.indexd_core.proofs.LockedLemmas.{out_alone}
use Rattle.indexd_core.specs.Around.{Around, course_of}
use Rattle.indexd_core.specs.Chain.{MayRun, Leaves, EndsKept, may_lose}
use Rattle.indexd_core.specs.Locked.{IsLockedOut}
use Rattle.indexd_core.specs.Monitors.{MonitorComes, Monitors}
use Rattle.indexd_core.specs.Stored as stored
use Rattle.indexd_core.specs.declared.status.Status.{Status}
use Rattle.indexd_core.specs.declared.status.Status.TheVariants.{Done, Configuration}

module _ {D : Type 0} (d : Ghosts D) (past : Past) (from to : Around D) (may : MayRun d past from.disk) where
  -- no image of the disk has changed
  stood_same : to.disk ≡ from.disk → Always d from.disk to.disk (StandsFor fits past)
  stood_same same = subst (λ (x : D). Always d from.disk x (StandsFor fits past)) (sym same)
      (always_begins d from.disk (StandsFor fits past) may.begins)

  stood_out : (status : Status) → IsLockedOut status d from.disk to.disk → Always d from.disk to.disk (StandsFor fits past)
  stood_out status out = always_still d from.disk to.disk (StandsFor fits past) (out_alone d from.disk to.disk status out).images may.begins

  -- ---- the store

  pub monitors_leave : (status : Status) (close : Bool) → Monitors status close d from to → Leaves d past from.disk to.disk
  monitors_leave status close (inl misjudged) = of_same d past from.disk to.disk may misjudged.alone
  monitors_leave status close (inr whole) = of_whole d past from to may (λ still. still.1)
      (λ out. not_given d past from to may status out.1) (λ config so. of_comes d past (course_of config from to) may so.2) whole

  pub monitors_keep : (status : Status) (close : Bool) → may_lose status ≡ false → Monitors status close d from to →
      EndsKept status d past from.disk to.disk
  monitors_keep status close kept (inl misjudged) = kept_same d past from to may status not_done misjudged.alone where
    not_done : status ≡ Done → ⊥
    not_done is = let e : Configuration ≡ Done = sym misjudged.status_is ∙ is in cc
  monitors_keep status close kept (inr whole) = kept_whole d past from to may (λ still. still.1) (λ out. out.1)
      (λ config so. kept_comes d past (course_of config from to) may kept so.2) whole

  -- ---- a file that only grows

  module _ (files : List TreeFile) (told : from.files ≡ Some files) (path before file : List ℕ) (on : IsWatched before path past.history)
      (grows : Grows files path before file) where
    abbrev pub Reads : Type 0
    Reads = HasReadNone d fits past file path from.disk to.disk ⊎ HasReadOn d fits past file path from.disk to.disk

    none_read : Always d from.disk to.disk (StandsFor fits past) → Reads
    none_read stood =
        let longer : IsWatched file path past.history = longer_is_watched before file path past.history grows.front on in
        inl (record {
          was = record { watched = longer; read = λ n. watched_is_read past.choose file path past.history n longer };
          stood = stood;
        })

    comes_read : (status : Status) (config : Config) (inputs : List Input) (close : Bool) →
        MonitorComes status d (course_of config from to) from.files inputs close from.output to.output → Reads
    comes_read status config inputs close (stored.done is all) =
        inr (runs_on d IsTaken fits past config from.ahead to.ahead files inputs close false (Ok tt) from.output.told to.output.told path
        before file from.disk to.disk on grows
        (subst (λ (o : Option (List TreeFile)). HasRun false d IsTaken fits past (WhenOpen past.choose config from.ahead
        (HasMonitored past.choose o inputs close (Ok tt) to.ahead from.output.told to.output.told)) from.disk to.disk) told (all past may)))
    comes_read status config inputs close (stored.stopped stop middle is all wrote line) =
        stops_on d IsTaken fits past (course_of config from to) stop files inputs close (Err stop) from.output.told middle.told path before
        file on grows
        (subst (λ (o : Option (List TreeFile)). HasStopped stop d IsTaken fits past (course_of config from to)
        (middle.told ≡ from.output.told)
        (HasMonitored past.choose o inputs close (Err stop) to.ahead from.output.told middle.told)) told (all past may))

    pub monitors_read : (status : Status) (close : Bool) → Monitors status close d from to → Reads
    monitors_read status close (inl misjudged) = none_read (stood_same misjudged.alone)
    monitors_read status close (inr (stored.unread still wrote)) = none_read (stood_same still.1)
    monitors_read status close (inr (stored.locked_out config is out said)) = none_read (stood_out status out.1)
    monitors_read status close (inr (stored.ran config is ran)) = comes_read status config ran.0 close ran.2
