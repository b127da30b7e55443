-- Requests that are served one behind the other from the input: `feed`.
use Rattle.std.specs.Prelude.{◌≡◌, ◌≤◌, ◌++◌, ℕ, List, [], codes, decimal}
use Rattle.ix_disk.specs.declared.disk.Disk.{Ghosts}
use Rattle.ix_state.specs.Taken.{IsTaken}
use Rattle.ix_replay.specs.Fits.{fits}
use Rattle.ix_sessions.specs.Reading.{ReadsTo}
use Rattle.indexd_serve.specs.Ends.{fed_of}
use Rattle.indexd_serve.specs.Serving.{exchange, HasServed, Requests}
use Rattle.indexd_serve.specs.Sides.{IsSound}
use Rattle.indexd_serve.specs.declared.end.End.{End}
use Rattle.indexd_serve.specs.declared.end.End.TheVariants as ends
use Rattle.indexd_run.specs.Opened.{Course, HasShut}
use Rattle.indexd_run.specs.declared.stop.Stop.{Stop}
use Rattle.indexd_core.specs.Around.{Around, course_of}
use Rattle.indexd_core.specs.Locked.{IsLockedOut}
use Rattle.indexd_core.specs.Sides.{Side}
use Rattle.indexd_core.specs.Stored.{status_of, line_of, damaged_line, FromStart, Whole}
use Rattle.indexd_core.specs.Texts.{status_text, Said}
use Rattle.indexd_core.specs.declared.status.Status.{Status}
use Rattle.indexd_core.specs.declared.status.Status.TheVariants.{Done, Memory, Input, DiskFault, Damaged, Output, Unreadable, Endless}

-- ---- statuses and their lines

abbrev pub end_status : End → Status
end_status ends.Ended = Done
end_status (ends.Unreadable request) = Unreadable
end_status ends.Memory = Memory
end_status ends.Endless = Endless
end_status ends.Disk = DiskFault
end_status (ends.Damaged file at) = Damaged
end_status ends.Input = Input
end_status ends.Output = Output

abbrev pub unreadable_line : ℕ → List ℕ
unreadable_line request = codes "indexd: request " ++ decimal request ++ codes " cannot be read\n"

abbrev pub end_line : End → List ℕ
end_line ends.Ended = status_text Done
end_line (ends.Unreadable request) = unreadable_line request
end_line ends.Memory = status_text Memory
end_line ends.Endless = status_text Endless
end_line ends.Disk = status_text DiskFault
end_line (ends.Damaged file at) = damaged_line file at
end_line ends.Input = status_text Input
end_line ends.Output = status_text Output

-- ---- runs

-- A run of requests with these settings. Shut: it stopped before the first request, read nothing,
-- and wrote the line of that. Served: requests were served up to this end, and behind their
-- replies, where the output is at the middle, stands the line of the status. All replies were
-- written, unless the output has failed. Which requests were read, and where the run ended by them,
-- goes by the bytes of the input, whatever the disk holds.
pub data FeedComes (status : Status) {D : Type 0} (d : Ghosts D) (run : Course D) (input input' output output' : Side) : Type 0 where
  shut : (stop : Stop) → status ≡ status_of stop → FromStart d run.before (λ past. HasShut stop d IsTaken fits past run) →
      input' ≡ input → Said (line_of [] stop) output output' → FeedComes status d run input input' output output'
  served : (end : End) (middle : Side) → status ≡ end_status end → output.faults ≤ middle.faults → middle.faults ≤ output'.faults →
      ReadsTo (fed_of end) input.told input'.told →
      FromStart d run.before (λ past. HasServed d IsTaken fits past run
      (Requests d fits (fed_of end) (IsSound output.faults middle.faults)
      (exchange input.told input'.told output.told middle.told))) →
      Said (end_line end) middle output' → FeedComes status d run input input' output output'

abbrev pub Feeds : Status → {D : Type 0} → Ghosts D → Around D → Around D → Type 0
Feeds status d from to =
    Whole status from to ((to.ahead ≡ from.ahead) × (to.input ≡ from.input) × (to.disk ≡ from.disk))
    ((to.ahead ≡ from.ahead) × (to.input ≡ from.input) × IsLockedOut status d from.disk to.disk)
    (λ config. FeedComes status d (course_of config from to) from.input to.input from.output to.output)
