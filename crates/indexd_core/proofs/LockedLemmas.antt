-- What is said of a run from where it has the store on, said from its start: the lock reads and
-- changes nothing.
use Rattle.std.proofs.Common.{◌≡◌, ◌⊎◌, ◌∙◌, ℕ, Bool, true, false, List, Option, Some, refl, sym, ap, subst, inl, inr}
use Rattle.ix_base.specs.Clocks.{Moments}
use Rattle.ix_base.specs.Faults.{Rose}
use Rattle.ix_disk.specs.Image.{Image}
use Rattle.ix_disk.specs.Moments.{Always}
use Rattle.ix_disk.specs.declared.disk.Disk.{Ghosts}
use Rattle.ix_disk.proofs.Runs.{nowhere, stays_on, still_all, always_still, always_on}
use Rattle.ix_state.specs.Taken.{IsTaken}
use Rattle.ix_model.specs.declared.commands.Config.{Config}
use Rattle.ix_model.specs.declared.commands.TimedCommand.{TimedCommand}
use Rattle.ix_replay.specs.Fits.{fits}
use Rattle.ix_run.specs.Resting.{ReadsShort}
use Rattle.ix_serve.specs.Serving.{IsTold}
use Rattle.ix_fs.specs.declared.trees.TreeFile.{TreeFile}
use Rattle.indexd_serve.specs.Serving.{Serving, HasServed}
use Rattle.indexd_run.specs.Opened.{Begins, Doing, Passes, HasRun, HasNotMounted, HasShut, HasStopped, Past, Course, course, StandsFor}
use Rattle.indexd_run.specs.Shortened.{HasHadItsRuns}
use Rattle.indexd_run.specs.declared.stop.Stop.{Stop}
use Rattle.indexd_core.specs.Chain.{MayRun}
use Rattle.indexd_core.specs.Feeds as feeds
use Rattle.indexd_core.specs.Feeds.{FeedComes}
use Rattle.indexd_core.specs.Locked.{IsLeftAlone, HasRefused, IsLockedOut, EndsUsed, is_before_store}
use Rattle.indexd_core.specs.Shortened.{LeavesShort}
use Rattle.indexd_core.specs.Sides.{Side}
use Rattle.indexd_core.specs.Stored as stored
use Rattle.indexd_core.specs.Stored.{FromStart, Comes, WroteUnread, Outcomes}
use Rattle.indexd_core.specs.declared.status.Status.{Status}
use Rattle.indexd_core.specs.declared.status.Status.TheVariants as statuses
use Rattle.indexd_core.proofs.StoredLemmas.{apart, yes_no}

pub left_alone : {D : Type 0} (d : Ghosts D) (disk : D) → IsLeftAlone d disk disk
left_alone d disk = record { same = refl; images = nowhere d disk }

pub same_alone : {D : Type 0} (d : Ghosts D) (disk disk' : D) → disk' ≡ disk → IsLeftAlone d disk disk'
same_alone d disk disk' is = subst (λ x. IsLeftAlone d disk x) (sym is) (left_alone d disk)

-- ---- from the start on

module _ {D : Type 0} {d : Ghosts D} {old mid : D} (alone : IsLeftAlone d old mid) where
  begins_on : (past : Past) → Begins d fits past old → Begins d fits past mid
  begins_on past begins = still_all d old mid (StandsFor fits past) alone.images begins

  may_on : (past : Past) → MayRun d past old → MayRun d past mid
  may_on past may = record {
    chooser = may.chooser;
    given = may.given;
    begins = begins_on past may.begins;
    image = may.image;
    tells = alone.same ∙ may.tells;
  }

  always_from : (P : Image → Type 0) (new : D) → ((image : Image) → d.may_leave old image → P image) → Always d mid new P →
      Always d old new P
  always_from P new holds always = always_on d old mid new P (always_still d old mid P alone.images holds) always

  passes_from : {past : Past} {now : List TimedCommand} {new_run count : ℕ} {new : D} → Begins d fits past old →
      Passes d fits past now new_run count mid new → Passes d fits past now new_run count old new
  passes_from {past = past} begins passes = record {
    later = passes.later;
    mounted = passes.mounted;
    first = passes.first;
    within = passes.within;
    up_to = always_from (StandsFor fits past) passes.mounted begins passes.up_to;
    at_mount = passes.at_mount;
    from_on = passes.from_on;
  }

  run_from : {lost : Bool} {past : Past} {may : List TimedCommand → List TimedCommand → List TimedCommand → Type 0} {new : D} →
      Begins d fits past old → HasRun lost d IsTaken fits past may mid new → HasRun lost d IsTaken fits past may old new
  run_from begins was = record {
    count = was.count;
    least = was.least;
    most = was.most;
    configured = was.configured;
    orders = was.orders;
    new_run = was.new_run;
    number = λ image seen. was.number image (alone.same ∙ seen);
    runs_left = λ image seen. was.runs_left image (alone.same ∙ seen);
    allowed = was.allowed;
    given = was.given;
    passes = passes_from begins was.passes;
    committed = was.committed;
    lasts = was.lasts;
  }

  module _ (config : Config) (ahead ahead' : Option Moments) (new : D) where
    abbrev from_mid : Course D
    from_mid = course config ahead ahead' mid new

    abbrev from_old : Course D
    from_old = course config ahead ahead' old new

    none_from : (stop : Stop) (past : Past) → Begins d fits past old → HasNotMounted stop d fits past from_mid →
        HasNotMounted stop d fits past from_old
    none_from stop past begins none = record {
      fault = none.fault;
      stop_is = none.stop_is;
      sound = none.sound;
      spent = λ full image seen. none.spent full image (alone.same ∙ seen);
      not_asked = none.not_asked;
      stood = always_from (StandsFor fits past) new begins none.stood;
    }

    shut_at : (stop : Stop) (past : Past) → Begins d fits past old → HasShut stop d IsTaken fits past from_mid →
        HasShut stop d IsTaken fits past from_old
    shut_at stop past begins (inl none) = inl (none_from stop past begins none)
    shut_at stop past begins (inr was) = inr (run_from begins was)

    pub shut_from : (stop : Stop) → FromStart d mid (λ past. HasShut stop d IsTaken fits past from_mid) →
        FromStart d old (λ past. HasShut stop d IsTaken fits past from_old)
    shut_from stop from = λ past may. shut_at stop past may.begins (from past (may_on past may))

    stopped_at : (stop : Stop) (past : Past) (untouched : Type 0) (may : Doing) → Begins d fits past old →
        HasStopped stop d IsTaken fits past from_mid untouched may → HasStopped stop d IsTaken fits past from_old untouched may
    stopped_at stop past untouched may begins (inl shut) = inl (shut_at stop past begins shut.0, shut.1)
    stopped_at stop past untouched may begins (inr was) = inr (run_from begins was)

    pub comes_from : {status : Status} {named : List ℕ} {to : Outcomes} {output' : Side} → Comes status d from_mid named to output' →
        Comes status d from_old named to output'
    comes_from (stored.done is from) = stored.done is (λ past may. run_from may.begins (from past (may_on past may)))
    comes_from {to = to} (stored.stopped stop middle is from wrote said) = stored.stopped stop middle is
        (λ past may. stopped_at stop past (to.untouched middle) (to.part stop middle past.choose) may.begins (from past (may_on past may)))
        wrote said

  pub told_on : IsTold d old → IsTold d mid
  told_on told = (told.0, alone.same ∙ told.1)

  module _ (config : Config) (ahead ahead' : Option Moments) (new : D) where
    served_at : (past : Past) (serves : Serving D) → Begins d fits past old →
        HasServed d IsTaken fits past (course config ahead ahead' mid new) serves →
        HasServed d IsTaken fits past (course config ahead ahead' old new) serves
    served_at past serves begins was = record {
      count = was.count;
      least = was.least;
      most = was.most;
      configured = was.configured;
      configures = was.configures;
      told = was.told;
      asked = was.asked;
      new_run = was.new_run;
      number = λ image seen. was.number image (alone.same ∙ seen);
      middle = was.middle;
      now = was.now;
      tells = λ told. was.tells (told_on told);
      runs_left = λ image seen. was.runs_left image (alone.same ∙ seen);
      served = was.served;
      given = was.given;
      passes = passes_from begins was.passes;
    }

    pub served_from : (serves : Serving D) →
        FromStart d mid (λ past. HasServed d IsTaken fits past (course config ahead ahead' mid new) serves) →
        FromStart d old (λ past. HasServed d IsTaken fits past (course config ahead ahead' old new) serves)
    served_from serves from = λ past may. served_at past serves may.begins (from past (may_on past may))

    pub feed_from : {status : Status} {input input' output output' : Side} →
        FeedComes status d (course config ahead ahead' mid new) input input' output output' →
        FeedComes status d (course config ahead ahead' old new) input input' output output'
    feed_from (feeds.shut stop is from same said) = feeds.shut stop is (shut_from config ahead ahead' new stop from) same said
    feed_from (feeds.served end middle is later after reads from said) = feeds.served end middle is later after reads
        (served_from _ from) said

  -- no history stands behind a damage
  pub none_from_start : FromStart d mid (λ past. ⊥) → FromStart d old (λ past. ⊥)
  none_from_start from = λ past may. from past (may_on past may)

  short_at : (status : Status) (new : D) → ReadsShort d new
      ⊎ (IsLeftAlone d mid new ⊎ ((status ≡ statuses.Full) × HasHadItsRuns d fits mid)) →
      ReadsShort d new ⊎ (IsLeftAlone d old new ⊎ ((status ≡ statuses.Full) × HasHadItsRuns d fits old))
  short_at status new (inl short) = inl short
  short_at status new (inr (inl still)) = inr (inl (record {
    same = still.same ∙ alone.same;
    images = stays_on d old mid new alone.images still.images;
  }))
  short_at status new (inr (inr had)) = inr (inr (had.0, λ image seen. had.1 image (alone.same ∙ seen)))

  pub short_from : (status : Status) (new : D) → LeavesShort status d mid new → LeavesShort status d old new
  short_from status new short = λ ok. short_at status new (short ok)

-- ---- a run that is not given the store

-- a run that is not given the store may end so
abbrev pub is_out : Status → Bool
is_out statuses.Done = false
is_out statuses.Memory = false
is_out statuses.Usage = false
is_out statuses.Configuration = false
is_out statuses.Input = false
is_out statuses.DiskFault = true
is_out statuses.Damaged = false
is_out statuses.Output = false
is_out statuses.ListenerFault = false
is_out statuses.NotFound = false
is_out statuses.TooManyChannels = false
is_out statuses.Unreadable = false
is_out statuses.Endless = false
is_out statuses.Full = false
is_out statuses.InUse = true

module _ {D : Type 0} (d : Ghosts D) (old new : D) where
  -- what is left alone by a run that is locked out
  pub out_alone : (status : Status) → IsLockedOut status d old new → IsLeftAlone d old new
  out_alone status (inl used) = used.1.alone
  out_alone status (inr failed) = failed.1.alone

  pub out_no : (status at : Status) → IsLockedOut status d old new → is_out at ≡ false → status ≡ at → ⊥
  out_no status at (inl used) other is = yes_no (is_out at) (ap is_out (sym is ∙ used.0)) other
  out_no status at (inr failed) other is = yes_no (is_out at) (ap is_out (sym is ∙ failed.0)) other

  pub out_disk : (status : Status) → IsLockedOut status d old new → status ≡ statuses.DiskFault → Rose (d.faults old) (d.faults new)
  out_disk status (inl used) is = absurd (apart statuses.InUse statuses.DiskFault refl (sym used.0 ∙ is))
  out_disk status (inr failed) is = failed.1.counted

  pub out_used : (status : Status) → IsLockedOut status d old new → status ≡ statuses.InUse → HasRefused d old new
  out_used status (inl used) is = used.1
  out_used status (inr failed) is = absurd (apart statuses.DiskFault statuses.InUse refl (sym failed.0 ∙ is))

  pub out_ends : (status : Status) → IsLockedOut status d old new → d.in_use old ≡ Some true → EndsUsed status d old new
  out_ends status (inl used) known = record { status_is = inl used.0; alone = used.1.alone }
  out_ends status (inr failed) known = absurd (failed.1.no_others known)

-- ---- a run that ends before

unread_before : (status : Status) (files : Option (List TreeFile)) (failed failed' : ℕ) (output output' : Side) →
    WroteUnread status files failed failed' output output' → is_before_store status ≡ true
unread_before statuses.Done files failed failed' output output' wrote = absurd wrote
unread_before statuses.Memory files failed failed' output output' wrote = refl
unread_before statuses.Usage files failed failed' output output' wrote = absurd wrote
unread_before statuses.Configuration files failed failed' output output' wrote = refl
unread_before statuses.Input files failed failed' output output' wrote = refl
unread_before statuses.DiskFault files failed failed' output output' wrote = absurd wrote
unread_before statuses.Damaged files failed failed' output output' wrote = absurd wrote
unread_before statuses.Output files failed failed' output output' wrote = absurd wrote
unread_before statuses.ListenerFault files failed failed' output output' wrote = absurd wrote
unread_before statuses.NotFound files failed failed' output output' wrote = absurd wrote
unread_before statuses.TooManyChannels files failed failed' output output' wrote = absurd wrote
unread_before statuses.Unreadable files failed failed' output output' wrote = absurd wrote
unread_before statuses.Endless files failed failed' output output' wrote = absurd wrote
unread_before statuses.Full files failed failed' output output' wrote = absurd wrote
unread_before statuses.InUse files failed failed' output output' wrote = absurd wrote

pub unread_ends : {D : Type 0} (d : Ghosts D) (disk : D) (status : Status) (files : Option (List TreeFile)) (failed failed' : ℕ)
    (output output' : Side) → WroteUnread status files failed failed' output output' →
    EndsUsed status d disk disk
unread_ends d disk status files failed failed' output output' wrote =
    record { status_is = inr (unread_before status files failed failed' output output' wrote); alone = left_alone d disk }
