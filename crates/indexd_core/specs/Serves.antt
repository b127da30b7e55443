-- Connections that are served, one request each: `serve`.
use Rattle.std.specs.Prelude.{◌≡◌, ◌⊎◌, ◌++◌, ℕ, List, [], codes, decimal}
use Rattle.ix_base.specs.Faults.{Rose}
use Rattle.ix_base.specs.Told.{HasWritten, HasBegun}
use Rattle.ix_disk.specs.declared.disk.Disk.{Ghosts}
use Rattle.ix_sessions.specs.Connections.{Listened}
use Rattle.ix_sessions.specs.Reading.{HearsMany}
use Rattle.indexd_serve.specs.Ends.{AsManyServed}
use Rattle.ix_state.specs.Taken.{IsTaken}
use Rattle.ix_replay.specs.Fits.{fits}
use Rattle.indexd_serve.specs.Serving.{HasServed, Connections}
use Rattle.indexd_serve.specs.declared.end.ServeEnd.{ServeEnd}
use Rattle.indexd_serve.specs.declared.end.ServeEnd.TheVariants as ends
use Rattle.indexd_run.specs.Opened.{Course, HasShut}
use Rattle.indexd_run.specs.declared.stop.Stop.{Stop}
use Rattle.indexd_core.specs.Around.{Around, course_of}
use Rattle.indexd_core.specs.Locked.{IsLockedOut}
use Rattle.indexd_core.specs.Sides.{Side}
use Rattle.indexd_core.specs.Stored.{status_of, line_of, damaged_line, FromStart, Whole}
use Rattle.indexd_core.specs.Texts.{status_text, Said}
use Rattle.indexd_core.specs.declared.status.Status.{Status}
use Rattle.indexd_core.specs.declared.status.Status.TheVariants.{Done, Memory, DiskFault, Damaged, Output, ListenerFault}

-- ---- statuses and their lines

abbrev pub served_line : ℕ → List ℕ
served_line requests = codes "served " ++ decimal requests ++ codes "\n"

-- The status of a run of so many connections that ended so, and what was written: how many were
-- served, or the line of the status.
abbrev pub EndsServing : Status → ℕ → ServeEnd → Side → Side → Type 0
EndsServing status requests ends.Done output output' =
    ((status ≡ Done) × HasWritten (served_line requests) output.told output'.told)
    ⊎ ((status ≡ Output) × Rose output.faults output'.faults × HasBegun (served_line requests) output.told output'.told)
EndsServing status requests ends.Listener output output' = (status ≡ ListenerFault) × Said (status_text ListenerFault) output output'
EndsServing status requests ends.Memory output output' = (status ≡ Memory) × Said (status_text Memory) output output'
EndsServing status requests ends.Disk output output' = (status ≡ DiskFault) × Said (status_text DiskFault) output output'
EndsServing status requests (ends.Damaged file at) output output' = (status ≡ Damaged) × Said (damaged_line file at) output output'

-- ---- runs

-- A run of connections with these settings. Unbound: the port was not to be had, and nothing else
-- was done. Locked out: the port was taken, and the store was not given. Shut: the run stopped
-- before the first connection, took none, and wrote the line of that. Served: connections were
-- served up to this end, and then the output was written. How many were taken, and that each was
-- handed back, holds whatever the disk holds.
pub data ServeComes (status : Status) {D : Type 0} (d : Ghosts D) (run : Course D) (requests : ℕ) (heard heard' : Listened)
    (output output' : Side) : Type 0 where
  unbound : status ≡ ListenerFault → run.ahead' ≡ run.ahead → heard' ≡ heard → run.disk ≡ run.before →
      Said (status_text ListenerFault) output output' → ServeComes status d run requests heard heard' output output'
  locked_out : run.ahead' ≡ run.ahead → heard' ≡ heard → IsLockedOut status d run.before run.disk →
      Said (status_text status) output output' → ServeComes status d run requests heard heard' output output'
  shut : (stop : Stop) → status ≡ status_of stop → FromStart d run.before (λ past. HasShut stop d IsTaken fits past run) →
      heard' ≡ heard → Said (line_of [] stop) output output' → ServeComes status d run requests heard heard' output output'
  served : (end : ServeEnd) → HearsMany (AsManyServed requests end) heard heard' →
      FromStart d run.before (λ past. HasServed d IsTaken fits past run (Connections d fits requests end heard heard')) →
      EndsServing status requests end output output' → ServeComes status d run requests heard heard' output output'

abbrev pub Serves : Status → ℕ → {D : Type 0} → Ghosts D → Around D → Around D → Type 0
Serves status requests d from to =
    Whole status from to ((to.ahead ≡ from.ahead) × (to.heard ≡ from.heard) × (to.disk ≡ from.disk)) ⊥
    (λ config. ServeComes status d (course_of config from to) requests from.heard to.heard from.output to.output)
