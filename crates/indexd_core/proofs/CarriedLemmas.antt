-- What comes of whatever the words ask for: where nothing is done, where no store is worked over,
-- and what follows of it for each command.
use Rattle.std.proofs.Common.{◌≡◌, ◌≤◌, ◌⊎◌, ◌∙◌, ℕ, Bool, true, false, List, inl, inr, refl, sym, ap, subst, le_refl, true≢false}
use Rattle.std.specs.Prelude.{Option, Some, None, is_some}
use Rattle.ix_base.specs.Faults.{Rose}
use Rattle.ix_disk.specs.declared.disk.Disk.{Ghosts}
use Rattle.indexd_settings.specs.Layers.{file_named}
use Rattle.indexd_settings.specs.declared.layers.SettingsFile.{SettingsFile}
use Rattle.indexd_cli.specs.Orders.{Asked, preview, btool, feed, serve, monitor, buckets, export, roll, thaw, tick, selftest}
use Rattle.indexd_run.specs.declared.task.Task.{Task}
use Rattle.indexd_run.specs.declared.task.Task.TheVariants as tasks
use Rattle.indexd_core.specs.Blamed.{IsFilled}
use Rattle.indexd_core.specs.Btool.{Tells}
use Rattle.indexd_core.specs.Carried.{ComesOf, Keeps, HasCause, Carries}
use Rattle.indexd_core.specs.Commands.{is_built, is_task, asked_for}
use Rattle.indexd_core.specs.Feeds.{Feeds}
use Rattle.indexd_core.specs.Monitors.{Monitors}
use Rattle.indexd_core.specs.Prepared.{Stated}
use Rattle.indexd_core.specs.Runs as runs
use Rattle.indexd_core.specs.Runs.{Previews}
use Rattle.indexd_core.specs.Selftests.{Tests, OnlyWrites, LacksRoom}
use Rattle.indexd_core.specs.Serves.{Serves}
use Rattle.indexd_core.specs.Sides.{Side}
use Rattle.indexd_core.specs.Stored.{Stored, Tasked, unread}
use Rattle.indexd_core.specs.Texts.{Said, status_text}
use Rattle.indexd_core.specs.declared.status.Status.{Status}
use Rattle.indexd_core.specs.declared.status.Status.TheVariants.{Done, Memory, Usage, Configuration, Input, DiskFault, Damaged, Output}
use Rattle.indexd_core.specs.declared.status.Status.TheVariants.{ListenerFault, NotFound, TooManyChannels, Unreadable, Endless, Full}
use Rattle.indexd_core.specs.declared.status.Status.TheVariants.{InUse}
use Rattle.indexd_core.proofs.LockedLemmas.{left_alone, same_alone}
use Rattle.indexd_core.proofs.PreviewLemmas.{rose-until}
use Rattle.indexd_core.proofs.StoredLemmas.{yes_no}
use Rattle.indexd_core.specs.Around.{Around, Outside, but_store}

-- ---- nothing is done

-- all stands as it stood, but for the output
abbrev pub wrote : {D : Type 0} → Around D → Side → Around D
wrote old output = record old { output = output }

-- the status blames something
abbrev blames : Status → Bool
blames Done = false
blames Memory = false
blames Usage = false
blames Configuration = false
blames Input = true
blames DiskFault = true
blames Damaged = true
blames Output = true
blames ListenerFault = true
blames NotFound = false
blames TooManyChannels = false
blames Unreadable = false
blames Endless = false
blames Full = true
blames InUse = true

pub blameless : (o : Option Asked) (status : Status) {D : Type 0} (d : Ghosts D) (old new : Around D) → blames status ≡ false →
    HasCause o status d old new
blameless o status d old new none = record {
  input = λ is. absurd (yes_no (blames status) (ap blames is) none);
  output = λ is. absurd (yes_no (blames status) (ap blames is) none);
  disk = λ is. absurd (yes_no (blames status) (ap blames is) none);
  listener = λ is. absurd (yes_no (blames status) (ap blames is) none);
  undamaged = λ is. absurd (yes_no (blames status) (ap blames is) none);
  blamed = λ is. absurd (yes_no (blames status) (ap blames is) none);
  full = λ is. absurd (yes_no (blames status) (ap blames is) none);
  in_use = λ is. absurd (yes_no (blames status) (ap blames is) none);
}

nothing_kept : {D : Type 0} (d : Ghosts D) (old : Around D) (output : Side) → old.output.faults ≤ output.faults →
    Keeps d old (wrote old output)
nothing_kept d old output later = record {
  files = refl;
  out = refl;
  told = λ told. told;
  disk_later = le_refl (d.faults old.disk);
  heard_later = le_refl old.deaf;
  read_later = le_refl old.input.faults;
  written_later = later;
  tree_later = le_refl old.failed;
  missing_later = le_refl old.missing;
}

comes_of_none : {D : Type 0} (d : Ghosts D) (o : Option Asked) (old : Around D) (output : Side) →
    Said (status_text Memory) old.output output →
    ComesOf o Memory d old (wrote old output)
comes_of_none d None old output said = tt
comes_of_none d (Some (preview host source sourcetype index false)) old output said = runs.unprepared refl refl said
comes_of_none d (Some (preview host source sourcetype index true)) old output said = unread (refl, refl, refl) said
comes_of_none d (Some (btool name)) old output said = (λ file named. said, refl, refl)
comes_of_none d (Some feed) old output said = unread (refl, refl, refl) said
comes_of_none d (Some (serve port requests)) old output said = (unread (refl, refl, refl) said, refl)
comes_of_none d (Some (monitor close)) old output said = (inr (unread (refl, refl) said), refl)
comes_of_none d (Some buckets) old output said = (tasks.Buckets, refl, unread (refl, refl) said, refl)
comes_of_none d (Some (export index range)) old output said =
    (tasks.Export (record { ref_ptr = (0, 0); now = index }) range, refl, unread (refl, refl) said, refl)
comes_of_none d (Some (roll index)) old output said = (
  tasks.Roll (record { ref_ptr = (0, 0); now = index }),
  refl,
  unread (refl, refl) said,
  refl,
)
comes_of_none d (Some (thaw index id)) old output said =
    (tasks.Thaw (record { ref_ptr = (0, 0); now = index }) id, refl, unread (refl, refl) said, refl)
comes_of_none d (Some tick) old output said = (tasks.Tick, refl, unread (refl, refl) said, refl)
comes_of_none d (Some (selftest seed count)) old output said = (said, refl)

not_usage : Memory ≡ Usage → ⊥
not_usage is = cc

-- there was no room for the words, whatever they ask for
pub no_room : {D : Type 0} (d : Ghosts D) (o : Option Asked) (status : Status) (old : Around D) (output : Side) → status ≡ Memory →
    Said (status_text Memory) old.output output → old.output.faults ≤ output.faults → Carries o status d old (wrote old output)
no_room d o status old output is said later = subst (λ (s : Status). Carries o s d old (wrote old output)) (sym is) (record {
  usage = λ e. absurd (not_usage e);
  refused = λ unbuilt. record { status_is = inr refl; tree_not_asked = refl; not_asked = refl; not_read = refl; line = said };
  comes = comes_of_none d o old output said;
  untouched = λ unbuilt. refl;
  used = λ used stored. record { status_is = inr refl; alone = left_alone d old.disk };
  short = λ ok. inr (inl (left_alone d old.disk));
  keeps = nothing_kept d old output later;
  cause = blameless o Memory d old (wrote old output) refl;
})

comes_of_refused : {D : Type 0} (d : Ghosts D) (o : Option Asked) (status : Status) (old : Around D) (output : Side) → is_built o ≡ false →
    ComesOf o status d old (wrote old output)
comes_of_refused d None status old output unbuilt = tt
comes_of_refused d (Some (preview host source sourcetype index store)) status old output unbuilt = absurd (true≢false unbuilt)
comes_of_refused d (Some (btool name)) status old output unbuilt =
    (λ file named. absurd (yes_no (is_some (file_named name)) (ap is_some named) unbuilt), refl, refl)
comes_of_refused d (Some feed) status old output unbuilt = absurd (true≢false unbuilt)
comes_of_refused d (Some (serve port requests)) status old output unbuilt = absurd (true≢false unbuilt)
comes_of_refused d (Some (monitor close)) status old output unbuilt = absurd (true≢false unbuilt)
comes_of_refused d (Some buckets) status old output unbuilt = absurd (true≢false unbuilt)
comes_of_refused d (Some (export index range)) status old output unbuilt = absurd (true≢false unbuilt)
comes_of_refused d (Some (roll index)) status old output unbuilt = absurd (true≢false unbuilt)
comes_of_refused d (Some (thaw index id)) status old output unbuilt = absurd (true≢false unbuilt)
comes_of_refused d (Some tick) status old output unbuilt = absurd (true≢false unbuilt)
comes_of_refused d (Some (selftest seed count)) status old output unbuilt = absurd (true≢false unbuilt)

-- the words are no command
pub refused : {D : Type 0} (d : Ghosts D) (o : Option Asked) (status : Status) (old : Around D) (output : Side) → is_built o ≡ false →
    status ≡ Usage →
    Said (status_text Usage) old.output output → old.output.faults ≤ output.faults → Carries o status d old (wrote old output)
refused d o status old output unbuilt is said later = subst (λ (s : Status). Carries o s d old (wrote old output)) (sym is) (record {
  usage = λ e. unbuilt;
  refused = λ unbuilt. record { status_is = inl refl; tree_not_asked = refl; not_asked = refl; not_read = refl; line = said };
  comes = comes_of_refused d o Usage old output unbuilt;
  untouched = λ unbuilt. refl;
  used = λ used stored. record { status_is = inr refl; alone = left_alone d old.disk };
  short = λ ok. inr (inl (left_alone d old.disk));
  keeps = nothing_kept d old output later;
  cause = blameless o Usage d old (wrote old output) refl;
})

same_file : (file other : SettingsFile) → ◌≡◌ {A = Option SettingsFile} (Some file) (Some other) → file ≡ other
same_file file other is = cc

-- ---- the commands that work over no store

module _ {stated : Stated} {from to : Outside} where
  of_usage : Previews Usage stated from to → ⊥
  of_usage (runs.unprepared same left wrote) = wrote
  of_usage (runs.ran prepared is run) = run.lines.outcome

  of_input : Previews Input stated from to → Rose from.input.faults to.input.faults
      ⊎ Rose from.failed to.failed
  of_input (runs.unprepared same left wrote) = inr wrote.0
  of_input (runs.ran prepared is run) = inl run.lines.outcome.0

  of_output : Previews Output stated from to → Rose from.output.faults to.output.faults
  of_output (runs.unprepared same left wrote) = absurd wrote
  of_output (runs.ran prepared is run) = rose-until _ _ _ run.lines.outcome.2 run.later

  of_disk : Previews DiskFault stated from to → ⊥
  of_disk (runs.unprepared same left wrote) = wrote
  of_disk (runs.ran prepared is run) = run.lines.outcome

  of_listener : Previews ListenerFault stated from to → ⊥
  of_listener (runs.unprepared same left wrote) = wrote
  of_listener (runs.ran prepared is run) = run.lines.outcome

  of_damaged : Previews Damaged stated from to → ⊥
  of_damaged (runs.unprepared same left wrote) = wrote
  of_damaged (runs.ran prepared is run) = run.lines.outcome

  of_full : Previews Full stated from to → ⊥
  of_full (runs.unprepared same left wrote) = wrote
  of_full (runs.ran prepared is run) = run.lines.outcome

  of_in_use : Previews InUse stated from to → ⊥
  of_in_use (runs.unprepared same left wrote) = wrote
  of_in_use (runs.ran prepared is run) = run.lines.outcome

module _ {D : Type 0} (status : Status) (old new : Around D) where
  preview_at : (stated : Stated) (s : Status) → Previews status stated (but_store old) (but_store new) →
      status ≡ s → Previews s stated (but_store old) (but_store new)
  preview_at stated s told is =
      subst (λ (s : Status). Previews s stated (but_store old) (but_store new)) is told

  tells_at : (file : SettingsFile) (s : Status) → Tells status file old.files old.failed new.failed old.output new.output →
      status ≡ s → Tells s file old.files old.failed new.failed old.output new.output
  tells_at file s told is = subst (λ (s : Status). Tells s file old.files old.failed new.failed old.output new.output) is told

module _ {D : Type 0} {d : Ghosts D} {status : Status} {old new : Around D} where
  -- events were shown, and the disk was left alone
  pub previewed : (stated : Stated) → Previews status stated (but_store old) (but_store new) →
      new.disk ≡ old.disk → Keeps d old new → Carries (Some (preview stated.host stated.source stated.sourcetype stated.index false)) status
      d old new
  previewed stated told same kept = record {
    usage = λ is. absurd (of_usage (preview_at status old new stated Usage told is));
    refused = λ unbuilt. absurd (true≢false unbuilt);
    comes = told;
    untouched = λ other. same;
    used = λ used stored. absurd (true≢false (sym stored));
    short = λ ok. inr (inl (same_alone d old.disk new.disk same));
    keeps = kept;
    cause = record {
      input = λ is. of_input (preview_at status old new stated Input told is);
      output = λ is. of_output (preview_at status old new stated Output told is);
      disk = λ is. absurd (of_disk (preview_at status old new stated DiskFault told is));
      listener = λ is. absurd (of_listener (preview_at status old new stated ListenerFault told is));
      undamaged = λ is. absurd (of_damaged (preview_at status old new stated Damaged told is));
      blamed = λ is. absurd (of_damaged (preview_at status old new stated Damaged told is));
      full = λ is. absurd (of_full (preview_at status old new stated Full told is));
      in_use = λ is. absurd (of_in_use (preview_at status old new stated InUse told is));
    };
  }

  -- the settings of a file were listed, and all but the tree and the output was left alone
  pub listed : (name : List ℕ) (file : SettingsFile) → file_named name ≡ Some file →
      Tells status file old.files old.failed new.failed old.output new.output →
      new.disk ≡ old.disk → new.input ≡ old.input → new.ahead ≡ old.ahead → Keeps d old new → Carries (Some (btool name)) status d old new
  listed name file named told same read asked kept = record {
    usage = λ is. absurd (tells_at status old new file Usage told is);
    refused = λ unbuilt. absurd (yes_no (is_some (file_named name)) (ap is_some named) unbuilt);
    comes = (
      λ other is. subst (λ (f : SettingsFile). Tells status f old.files old.failed new.failed old.output new.output)
          (same_file file other (sym named ∙ is)) told,
      read,
      asked,
    );
    untouched = λ other. same;
    used = λ used stored. absurd (true≢false (sym stored));
    short = λ ok. inr (inl (same_alone d old.disk new.disk same));
    keeps = kept;
    cause = record {
      input = λ is. inr (tells_at status old new file Input told is).0;
      output = λ is. (tells_at status old new file Output told is).2;
      disk = λ is. absurd (tells_at status old new file DiskFault told is);
      listener = λ is. absurd (tells_at status old new file ListenerFault told is);
      undamaged = λ is. absurd (tells_at status old new file Damaged told is);
      blamed = λ is. absurd (tells_at status old new file Damaged told is);
      full = λ is. absurd (tells_at status old new file Full told is);
      in_use = λ is. absurd (tells_at status old new file InUse told is);
    };
  }

-- ---- a selftest

module _ {D : Type 0} (d : Ghosts D) (seed count : ℕ) (old : Around D) (output : Side) where
  tests_at : (status s : Status) → Tests status seed count old.output output → status ≡ s → Tests s seed count old.output output
  tests_at status s told is = subst (λ (s : Status). Tests s seed count old.output output) is told

  -- its text was written, and all else was left alone
  pub tested : (status : Status) → Tests status seed count old.output output → old.output.faults ≤ output.faults →
      Carries (Some (selftest seed count)) status d old (wrote old output)
  tested status told later = record {
    usage = λ is. absurd (tests_at status Usage told is);
    refused = λ unbuilt. absurd (true≢false unbuilt);
    comes = (told, refl);
    untouched = λ other. refl;
    used = λ used stored. absurd (true≢false (sym stored));
    short = λ ok. inr (inl (left_alone d old.disk));
    keeps = nothing_kept d old output later;
    cause = record {
      input = λ is. absurd (tests_at status Input told is);
      output = λ is. (tests_at status Output told is).2;
      disk = λ is. absurd (tests_at status DiskFault told is);
      listener = λ is. absurd (tests_at status ListenerFault told is);
      undamaged = λ is. absurd (tests_at status Damaged told is);
      blamed = λ is. absurd (tests_at status Damaged told is);
      full = λ is. (tests_at status Full told is).0;
      in_use = λ is. absurd (tests_at status InUse told is);
    };
  }

module _ {D : Type 0} (d : Ghosts D) (status : Status) (old new : Around D) where
  -- ---- tasks

  pub task_comes : (task : Task) → Tasked status task d old new →
      new.input ≡ old.input → ComesOf (Some (asked_for task)) status d old new
  task_comes tasks.Buckets told same = (tasks.Buckets, refl, told, same)
  task_comes (tasks.Export index range) told same = (tasks.Export index range, refl, told, same)
  task_comes (tasks.Roll index) told same = (tasks.Roll index, refl, told, same)
  task_comes (tasks.Thaw index id) told same = (tasks.Thaw index id, refl, told, same)
  task_comes tasks.Tick told same = (tasks.Tick, refl, told, same)

pub task_lacks : {D : Type 0} (d : Ghosts D) (disk : D) (task : Task) → IsFilled d disk → LacksRoom (Some (asked_for task)) d disk
task_lacks d disk tasks.Buckets filled = filled
task_lacks d disk (tasks.Export index range) filled = filled
task_lacks d disk (tasks.Roll index) filled = filled
task_lacks d disk (tasks.Thaw index id) filled = filled
task_lacks d disk tasks.Tick filled = filled

pub task_is_built : (task : Task) → is_built (Some (asked_for task)) ≡ true
task_is_built tasks.Buckets = refl
task_is_built (tasks.Export index range) = refl
task_is_built (tasks.Roll index) = refl
task_is_built (tasks.Thaw index id) = refl
task_is_built tasks.Tick = refl

-- ---- what follows for each command

module _ {D : Type 0} {d : Ghosts D} {o : Option Asked} {status : Status} {old new : Around D} where
  comes_as : (o' : Option Asked) → Carries o status d old new → o ≡ o' → ComesOf o' status d old new
  comes_as o' did is = subst (λ (o : Option Asked). ComesOf o status d old new) is did.comes

  pub by_preview : (stated : Stated) → Carries o status d old new →
      o ≡ Some (preview stated.host stated.source stated.sourcetype stated.index false) →
      Previews status stated (but_store old) (but_store new)
  by_preview stated did is = comes_as (Some (preview stated.host stated.source stated.sourcetype stated.index false)) did is

  pub by_store : (stated : Stated) → Carries o status d old new →
      o ≡ Some (preview stated.host stated.source stated.sourcetype stated.index true) →
      Stored status stated d old new
  by_store stated did is = comes_as (Some (preview stated.host stated.source stated.sourcetype stated.index true)) did is

  pub by_btool : (name : List ℕ) → Carries o status d old new → o ≡ Some (btool name) →
      ((file : SettingsFile) → file_named name ≡ Some file → Tells status file old.files old.failed new.failed old.output new.output)
      × (new.input ≡ old.input) × (new.ahead ≡ old.ahead)
  by_btool name did is = comes_as (Some (btool name)) did is

  pub by_feed : Carries o status d old new → o ≡ Some feed →
      Feeds status d old new
  by_feed did is = comes_as (Some feed) did is

  pub by_serve : (port requests : ℕ) → Carries o status d old new → o ≡ Some (serve port requests) →
      Serves status requests d old new
      × (new.input ≡ old.input)
  by_serve port requests did is = comes_as (Some (serve port requests)) did is

  pub by_monitor : (close : Bool) → Carries o status d old new → o ≡ Some (monitor close) →
      Monitors status close d old new
      × (new.input ≡ old.input)
  by_monitor close did is = comes_as (Some (monitor close)) did is

  pub by_selftest : (seed count : ℕ) → Carries o status d old new → o ≡ Some (selftest seed count) →
      Tests status seed count old.output new.output × OnlyWrites old new
  by_selftest seed count did is = comes_as (Some (selftest seed count)) did is

some_task : {D : Type 0} (d : Ghosts D) (o : Option Asked) (status : Status) (old new : Around D) → is_task o ≡ true →
    ComesOf o status d old new →
    (task : Task) × (o ≡ Some (asked_for task))
    × Tasked status task d old new
    × (new.input ≡ old.input)
some_task d None status old new is comes = absurd (true≢false (sym is))
some_task d (Some (preview host source sourcetype index store)) status old new is comes = absurd (true≢false (sym is))
some_task d (Some (btool file)) status old new is comes = absurd (true≢false (sym is))
some_task d (Some feed) status old new is comes = absurd (true≢false (sym is))
some_task d (Some (serve port requests)) status old new is comes = absurd (true≢false (sym is))
some_task d (Some (monitor close)) status old new is comes = absurd (true≢false (sym is))
some_task d (Some buckets) status old new is comes = (comes.0, sym (ap (λ (a : Asked). Some a) comes.1), comes.2, comes.3)
some_task d (Some (export index range)) status old new is comes = (comes.0, sym (ap (λ (a : Asked). Some a) comes.1), comes.2, comes.3)
some_task d (Some (roll index)) status old new is comes = (comes.0, sym (ap (λ (a : Asked). Some a) comes.1), comes.2, comes.3)
some_task d (Some (thaw index id)) status old new is comes = (comes.0, sym (ap (λ (a : Asked). Some a) comes.1), comes.2, comes.3)
some_task d (Some tick) status old new is comes = (comes.0, sym (ap (λ (a : Asked). Some a) comes.1), comes.2, comes.3)
some_task d (Some (selftest seed count)) status old new is comes = absurd (true≢false (sym is))

pub by_task : {D : Type 0} {d : Ghosts D} {o : Option Asked} {status : Status} {old new : Around D} → Carries o status d old new →
    is_task o ≡ true →
    (task : Task) × (o ≡ Some (asked_for task))
    × Tasked status task d old new
    × (new.input ≡ old.input)
by_task {d = d} {o = o} {status = status} {old = old} {new = new} did is = some_task d o status old new is did.comes

-- ---- what is asked for is one thing

pub carried_as : {D : Type 0} {d : Ghosts D} {status : Status} {old new : Around D} {o o' : Option Asked} → o ≡ o' →
    Carries o' status d old new → Carries o status d old new
carried_as {d = d} {status = status} {old = old} {new = new} is did = subst (λ (o : Option Asked). Carries o status d old new) (sym is) did
