-- Runs over a store: their lines, what tasks are given, and a run that misses its index once the
-- store is open.
use Rattle.std.proofs.Common.{◌≡◌, ◌≤◌, ◌++◌, inl, inr, ℕ, ℤ, Bool, true, false, List, [], ◌∷◌, length, refl, sym, ap, ◌∙◌, subst}
use Rattle.std.proofs.Common.{append_assoc, arith}
use Rattle.std.specs.Prelude.{Option, Some, None, Result, Err, IfSome, nat_lt, ◌==◌}
use Rattle.std.specs.List.{AllByRecursion}
use Rattle.ix_base.specs.Faults.{Rose}
use Rattle.ix_base.specs.Told.{HasWritten, HasBegun}
use Rattle.ix_base.proofs.ToldLemmas.{then_written, then_begun, begun_of_more}
use Rattle.ix_base.specs.Clocks.{Moments}
use Rattle.ix_base.specs.declared.files.File.{File}
use Rattle.ix_fs.specs.declared.trees.TreeFile.{TreeFile}
use Rattle.ix_disk.specs.Image.{Image}
use Rattle.ix_disk.specs.declared.disk.Disk.{Ghosts}
use Rattle.ix_manifest.specs.Book.{NamedItems}
use Rattle.ix_state.specs.Configs.{IsChooser}
use Rattle.ix_state.specs.Taken.{IsTaken, AreGiven}
use Rattle.ix_model.specs.declared.commands.Config.{Config}
use Rattle.ix_replay.specs.Fits.{fits}
use Rattle.ix_store.specs.declared.fault.MountFault.TheVariants as mounts
use Rattle.indexd_run.specs.Opened.{Begins, Doing, HasStopped, Past, course}
use Rattle.indexd_run.specs.Stops.{is_output, is_input}
use Rattle.indexd_run.specs.declared.stop.Stop.{Stop}
use Rattle.indexd_run.specs.declared.stop.Stop.TheVariants as stops
use Rattle.indexd_run.specs.Tasks.{orders_in}
use Rattle.indexd_run.specs.declared.task.Task.{Task}
use Rattle.indexd_run.specs.declared.task.Task.TheVariants as tasks
use Rattle.indexd_core.specs.Commands.{asked_for, is_stored}
use Rattle.indexd_core.specs.Sides.{Side}
use Rattle.indexd_core.specs.Stored.{status_of, named_by, tail_of, is_long, FromStart, WroteUnread}
use Rattle.indexd_core.specs.declared.status.Status.{Status}
use Rattle.indexd_core.specs.declared.status.Status.TheVariants as statuses
use Rattle.indexd_core.specs.Texts.{Said, status_code}

-- ---- lines

in_pieces : (p i s d n : List ℕ) → p ++ i ++ (s ++ d ++ n) ≡ p ++ (i ++ s ++ d) ++ n
in_pieces p i s d n =
    append_assoc p i (s ++ d ++ n)
    ∙ ap (λ (l : List ℕ). p ++ l) (ap (λ (l : List ℕ). i ++ l) (append_assoc s d n) ∙ sym (append_assoc i s (d ++ n))
    ∙ sym (append_assoc (i ++ s) d n))
    ∙ sym (append_assoc p (i ++ s ++ d) n)

pub missing_line : (p index : List ℕ) (id : Option ℕ) → p ++ index ++ tail_of id ≡ p ++ named_by index id ++ (10 ∷ [])
missing_line p index None = refl
missing_line p index (Some id) = in_pieces p index (32 ∷ []) _ (10 ∷ [])

-- ---- three pieces

rose_later : (a b c : ℕ) → a ≤ b → Rose b c → Rose a c
rose_later a b c le rose = grind arith

pub first_failed : (a b c : List ℕ) (output output' : Side) → Rose output.faults output'.faults → HasBegun a output.told output'.told →
    Said (a ++ b ++ c) output output'
first_failed a b c output output' rose begun = inr (rose, begun_of_more c (begun_of_more b begun))

pub second_failed : (a b c : List ℕ) (output middle output' : Side) → output.faults ≤ middle.faults → HasWritten a output.told middle.told →
    Rose middle.faults output'.faults → HasBegun b middle.told output'.told → Said (a ++ b ++ c) output output'
second_failed a b c output middle output' later written rose begun =
    inr (rose_later output.faults middle.faults output'.faults later rose, begun_of_more c (then_begun written begun))

pub third_said : (a b c : List ℕ) (output middle output' : Side) → output.faults ≤ middle.faults →
    HasWritten (a ++ b) output.told middle.told →
    Said c middle output' → Said (a ++ b ++ c) output output'
third_said a b c output middle output' later written (inl all) = inl (then_written written all)
third_said a b c output middle output' later written (inr part) =
    inr (rose_later output.faults middle.faults output'.faults later part.0, then_begun written part.1)

-- ---- tasks

pub task_taken : (task : Task) (moment : ℤ) → AllByRecursion IsTaken (orders_in task moment)
task_taken tasks.Buckets moment = tt
task_taken (tasks.Export index range) moment = tt
task_taken (tasks.Roll index) moment = (tt, tt)
task_taken (tasks.Thaw index id) moment = (tt, tt)
task_taken tasks.Tick moment = (tt, tt)

pub task_is_stored : (task : Task) → is_stored (Some (asked_for task)) ≡ true
task_is_stored tasks.Buckets = refl
task_is_stored (tasks.Export index range) = refl
task_is_stored (tasks.Roll index) = refl
task_is_stored (tasks.Thaw index id) = refl
task_is_stored tasks.Tick = refl

-- ---- statuses of stops

differs : (n : ℕ) → (n == n) ≡ false → ⊥
differs n e = grind arith

-- two statuses with other codes
pub apart : (a b : Status) → (status_code a == status_code b) ≡ false → a ≡ b → ⊥
apart a b other is = differs (status_code a) (subst (λ (s : Status). (status_code a == status_code s) ≡ false) (sym is) other)

of_disk : (stop : Stop) → statuses.DiskFault ≡ status_of stop → stop ≡ stops.Disk
of_disk stops.Memory is = absurd (apart statuses.DiskFault statuses.Memory refl is)
of_disk stops.Disk is = refl
of_disk (stops.Damaged file at) is = absurd (apart statuses.DiskFault statuses.Damaged refl is)
of_disk stops.Inconsistent is = absurd (apart statuses.DiskFault statuses.Damaged refl is)
of_disk stops.NotFound is = absurd (apart statuses.DiskFault statuses.NotFound refl is)
of_disk stops.TooManyChannels is = absurd (apart statuses.DiskFault statuses.TooManyChannels refl is)
of_disk stops.Full is = absurd (apart statuses.DiskFault statuses.Full refl is)
of_disk stops.Output is = absurd (apart statuses.DiskFault statuses.Output refl is)
of_disk stops.Input is = absurd (apart statuses.DiskFault statuses.Input refl is)
of_disk stops.Endless is = absurd (apart statuses.DiskFault statuses.Endless refl is)

pub disk_stop : (ended : Status) (stop : Stop) → ended ≡ status_of stop → ended ≡ statuses.DiskFault → stop ≡ stops.Disk
disk_stop ended stop is at = of_disk stop (sym at ∙ is)

of_output : (stop : Stop) → statuses.Output ≡ status_of stop → (is_output stop ≡ true) × (stop ≡ stops.Output)
of_output stops.Memory is = absurd (apart statuses.Output statuses.Memory refl is)
of_output stops.Disk is = absurd (apart statuses.Output statuses.DiskFault refl is)
of_output (stops.Damaged file at) is = absurd (apart statuses.Output statuses.Damaged refl is)
of_output stops.Inconsistent is = absurd (apart statuses.Output statuses.Damaged refl is)
of_output stops.NotFound is = absurd (apart statuses.Output statuses.NotFound refl is)
of_output stops.TooManyChannels is = absurd (apart statuses.Output statuses.TooManyChannels refl is)
of_output stops.Full is = absurd (apart statuses.Output statuses.Full refl is)
of_output stops.Output is = (refl, refl)
of_output stops.Input is = absurd (apart statuses.Output statuses.Input refl is)
of_output stops.Endless is = absurd (apart statuses.Output statuses.Endless refl is)

pub output_stop : (ended : Status) (stop : Stop) → ended ≡ status_of stop → ended ≡ statuses.Output → (is_output stop ≡ true)
    × (stop ≡ stops.Output)
output_stop ended stop is at = of_output stop (sym at ∙ is)

of_input : (stop : Stop) → statuses.Input ≡ status_of stop → (is_input stop ≡ true) × (stop ≡ stops.Input)
of_input stops.Memory is = absurd (apart statuses.Input statuses.Memory refl is)
of_input stops.Disk is = absurd (apart statuses.Input statuses.DiskFault refl is)
of_input (stops.Damaged file at) is = absurd (apart statuses.Input statuses.Damaged refl is)
of_input stops.Inconsistent is = absurd (apart statuses.Input statuses.Damaged refl is)
of_input stops.NotFound is = absurd (apart statuses.Input statuses.NotFound refl is)
of_input stops.TooManyChannels is = absurd (apart statuses.Input statuses.TooManyChannels refl is)
of_input stops.Full is = absurd (apart statuses.Input statuses.Full refl is)
of_input stops.Output is = absurd (apart statuses.Input statuses.Output refl is)
of_input stops.Input is = (refl, refl)
of_input stops.Endless is = absurd (apart statuses.Input statuses.Endless refl is)

pub input_stop : (ended : Status) (stop : Stop) → ended ≡ status_of stop → ended ≡ statuses.Input → (is_input stop ≡ true)
    × (stop ≡ stops.Input)
input_stop ended stop is at = of_input stop (sym at ∙ is)

of_usage : (stop : Stop) → statuses.Usage ≡ status_of stop → ⊥
of_usage stops.Memory is = apart statuses.Usage statuses.Memory refl is
of_usage stops.Disk is = apart statuses.Usage statuses.DiskFault refl is
of_usage (stops.Damaged file at) is = apart statuses.Usage statuses.Damaged refl is
of_usage stops.Inconsistent is = apart statuses.Usage statuses.Damaged refl is
of_usage stops.NotFound is = apart statuses.Usage statuses.NotFound refl is
of_usage stops.TooManyChannels is = apart statuses.Usage statuses.TooManyChannels refl is
of_usage stops.Full is = apart statuses.Usage statuses.Full refl is
of_usage stops.Output is = apart statuses.Usage statuses.Output refl is
of_usage stops.Input is = apart statuses.Usage statuses.Input refl is
of_usage stops.Endless is = apart statuses.Usage statuses.Endless refl is

pub usage_stop : (ended : Status) (stop : Stop) → ended ≡ status_of stop → ended ≡ statuses.Usage → ⊥
usage_stop ended stop is at = of_usage stop (sym at ∙ is)

of_listener : (stop : Stop) → statuses.ListenerFault ≡ status_of stop → ⊥
of_listener stops.Memory is = apart statuses.ListenerFault statuses.Memory refl is
of_listener stops.Disk is = apart statuses.ListenerFault statuses.DiskFault refl is
of_listener (stops.Damaged file at) is = apart statuses.ListenerFault statuses.Damaged refl is
of_listener stops.Inconsistent is = apart statuses.ListenerFault statuses.Damaged refl is
of_listener stops.NotFound is = apart statuses.ListenerFault statuses.NotFound refl is
of_listener stops.TooManyChannels is = apart statuses.ListenerFault statuses.TooManyChannels refl is
of_listener stops.Full is = apart statuses.ListenerFault statuses.Full refl is
of_listener stops.Output is = apart statuses.ListenerFault statuses.Output refl is
of_listener stops.Input is = apart statuses.ListenerFault statuses.Input refl is
of_listener stops.Endless is = apart statuses.ListenerFault statuses.Endless refl is

pub listener_stop : (ended : Status) (stop : Stop) → ended ≡ status_of stop → ended ≡ statuses.ListenerFault → ⊥
listener_stop ended stop is at = of_listener stop (sym at ∙ is)

of_in_use : (stop : Stop) → statuses.InUse ≡ status_of stop → ⊥
of_in_use stops.Memory is = apart statuses.InUse statuses.Memory refl is
of_in_use stops.Disk is = apart statuses.InUse statuses.DiskFault refl is
of_in_use (stops.Damaged file at) is = apart statuses.InUse statuses.Damaged refl is
of_in_use stops.Inconsistent is = apart statuses.InUse statuses.Damaged refl is
of_in_use stops.NotFound is = apart statuses.InUse statuses.NotFound refl is
of_in_use stops.TooManyChannels is = apart statuses.InUse statuses.TooManyChannels refl is
of_in_use stops.Full is = apart statuses.InUse statuses.Full refl is
of_in_use stops.Output is = apart statuses.InUse statuses.Output refl is
of_in_use stops.Input is = apart statuses.InUse statuses.Input refl is
of_in_use stops.Endless is = apart statuses.InUse statuses.Endless refl is

pub in_use_stop : (ended : Status) (stop : Stop) → ended ≡ status_of stop → ended ≡ statuses.InUse → ⊥
in_use_stop ended stop is at = of_in_use stop (sym at ∙ is)

of_done : (stop : Stop) → statuses.Done ≡ status_of stop → ⊥
of_done stops.Memory is = apart statuses.Done statuses.Memory refl is
of_done stops.Disk is = apart statuses.Done statuses.DiskFault refl is
of_done (stops.Damaged file at) is = apart statuses.Done statuses.Damaged refl is
of_done stops.Inconsistent is = apart statuses.Done statuses.Damaged refl is
of_done stops.NotFound is = apart statuses.Done statuses.NotFound refl is
of_done stops.TooManyChannels is = apart statuses.Done statuses.TooManyChannels refl is
of_done stops.Full is = apart statuses.Done statuses.Full refl is
of_done stops.Output is = apart statuses.Done statuses.Output refl is
of_done stops.Input is = apart statuses.Done statuses.Input refl is
of_done stops.Endless is = apart statuses.Done statuses.Endless refl is

pub done_stop : (ended : Status) (stop : Stop) → ended ≡ status_of stop → ended ≡ statuses.Done → ⊥
done_stop ended stop is at = of_done stop (sym at ∙ is)

-- the log has no history, or a file is blamed
pub by_blame : (stop : Stop) (P : Type 0) → status_of stop ≡ statuses.Damaged → (stop ≡ stops.Inconsistent → P) →
    ((file : File) (at : ℕ) → stop ≡ stops.Damaged file at → P) → P
by_blame stops.Memory P is unsound damaged = absurd (apart statuses.Memory statuses.Damaged refl is)
by_blame stops.Disk P is unsound damaged = absurd (apart statuses.DiskFault statuses.Damaged refl is)
by_blame (stops.Damaged file at) P is unsound damaged = damaged file at refl
by_blame stops.Inconsistent P is unsound damaged = unsound refl
by_blame stops.NotFound P is unsound damaged = absurd (apart statuses.NotFound statuses.Damaged refl is)
by_blame stops.TooManyChannels P is unsound damaged = absurd (apart statuses.TooManyChannels statuses.Damaged refl is)
by_blame stops.Full P is unsound damaged = absurd (apart statuses.Full statuses.Damaged refl is)
by_blame stops.Output P is unsound damaged = absurd (apart statuses.Output statuses.Damaged refl is)
by_blame stops.Input P is unsound damaged = absurd (apart statuses.Input statuses.Damaged refl is)
by_blame stops.Endless P is unsound damaged = absurd (apart statuses.Endless statuses.Damaged refl is)

pub yes_no : (b : Bool) → b ≡ true → b ≡ false → ⊥
yes_no b is other = cc

pub same_stop : {T : Type 0} {stop other : Stop} → ◌≡◌ {A = Result T Stop} (Err stop) (Err other) → stop ≡ other
same_stop is = cc

pub err_as : {T E : Type 0} (a b : E) → a ≡ b → ◌≡◌ {A = Result T E} (Err a) (Err b)
err_as a b same = ap (λ x. Err x) same

-- ---- where the settings are not read

pub unread_at : (ended at : Status) (files : Option (List TreeFile)) (failed failed' : ℕ) (output output' : Side) →
    WroteUnread ended files failed failed' output output' → ended ≡ at → WroteUnread at files failed failed' output output'
unread_at ended at files failed failed' output output' wrote is =
    subst (λ (s : Status). WroteUnread s files failed failed' output output') is wrote

-- ---- what is said of every start

-- each part of the premise by itself
pub from_start : {D : Type 0} (d : Ghosts D) (disk : D) (comes : Past → Type 0) →
    ((past : Past) → IsChooser past.choose → AreGiven past.history → Begins d fits past disk → (image : Image) →
    d.seen disk ≡ Some image → comes past) →
    FromStart d disk comes
from_start d disk comes so = λ past may. so past may.chooser may.given may.begins may.image may.tells

-- ---- nothing is mounted for want of memory

pub unmounted : {D : Type 0} (d : Ghosts D) (fits : NamedItems →
    Type 0) (past : Past) (config : Config) (ahead : Option Moments)
    (untouched : Type 0) (may : Doing) (disk : D) → untouched → Begins d fits past disk → d.moment disk ≤ d.moment disk →
    HasStopped stops.Memory d IsTaken fits past (course config ahead ahead disk disk) untouched may
unmounted d fits past config ahead untouched may disk same begins now = inl (
  inl (record {
    fault = mounts.NoMemory;
    stop_is = refl;
    sound = λ is. cc;
    spent = λ is. cc;
    not_asked = refl;
    stood = record { later = now; now = begins; since = λ t image since left. inl left };
  }),
  same,
)

-- ---- a stated index

at_most : (n : ℕ) → nat_lt 1024 n ≡ false → n ≤ 1024
at_most n short = grind arith

pub brief_index : (index : Option (List ℕ)) → is_long index ≡ false → IfSome index (λ (name : List ℕ). length name ≤ 1024)
brief_index None short = tt
brief_index (Some index) short = at_most (length index) short
