-- How a run over a store ends: what was given last.
use Rattle.std.proofs.Common.{◌≡◌, ℕ, ℤ, Bool, true, false, List, [], ◌∷◌, ◌++◌, length, refl, sym, ap, ◌∙◌, subst, arith, inl, inr}
use Rattle.std.specs.Prelude.{Result, Ok, Err}
use Rattle.ix_disk.specs.declared.disk.Disk.{Ghosts}
use Rattle.ix_manifest.specs.Book.{NamedItems}
use Rattle.ix_manifest.specs.declared.fault.CheckpointFault.{CheckpointFault}
use Rattle.ix_manifest.specs.declared.fault.CheckpointFault.TheVariants as checkpoints
use Rattle.ix_commit.specs.declared.fault.CommitFault.{CommitFault}
use Rattle.ix_commit.specs.declared.fault.CommitFault.TheVariants as commits
use Rattle.ix_model.specs.Bounds.{IsAllowed, IsRefused}
use Rattle.ix_model.specs.Given.{Chooser}
use Rattle.ix_model.specs.Judged.{adds, draws}
use Rattle.ix_model.specs.State.{State}
use Rattle.ix_model.specs.Step.{state_after}
use Rattle.ix_model.specs.declared.answers.Refusal.{Refusal}
use Rattle.ix_model.specs.declared.answers.Refusal.TheVariants as refusals
use Rattle.ix_model.specs.declared.answers.Accepted.{Accepted}
use Rattle.ix_model.specs.declared.commands.Config.{Config}
use Rattle.ix_model.specs.declared.commands.TimedCommand.{TimedCommand}
use Rattle.ix_store.specs.Holding.{Represents, IsUnchanged}
use Rattle.ix_run.specs.declared.input.RunFault.{RunFault}
use Rattle.ix_run.specs.declared.input.RunFault.TheVariants as runs
use Rattle.ix_store.specs.declared.fault.MountFault.{MountFault}
use Rattle.ix_store.specs.declared.fault.MountFault.TheVariants as mounts
use Rattle.ix_store.specs.declared.store.Store.{Store}
use Rattle.ix_commit.proofs.Beginning.{over_same}
use Rattle.ix_run.proofs.Rested.{idle_same, measured_same}
use Rattle.ix_run.specs.Resting.{CheckpointReady}
use Rattle.ix_run.specs.Giving.{HasKeptAll, IsKept}
use Rattle.ix_run.specs.Running.{AlwaysRecoverable, HasAdvanced, IsNotGiven, outset}
use Rattle.ix_run.specs.declared.giving.GiveFault.{GiveFault}
use Rattle.ix_run.specs.declared.giving.GiveFault.TheVariants.{Refused, Commit}
use Rattle.indexd_run.specs.declared.stop.Stop.{Stop}
use Rattle.indexd_run.specs.Ends.{IsLeft, HasLasted, Ends, Only, AtMost}
use Rattle.indexd_run.specs.Opened.{configuring, IsUnset}
use Rattle.indexd_run.specs.declared.stop.Stop.TheVariants as stops
use Rattle.indexd_run.specs.Stops.{of_mount, of_refusal, of_commit, of_give, of_run, of_checkpoint, loses, is_output, is_input, Caused}
use Rattle.indexd_run.specs.Shortened.{is_short_at}
use Rattle.indexd_run.proofs.Leaving.{left_all}

-- ---- what a run comes to

pub not_err : {T : Type 0} {done : T} {stop : Stop} → ◌≡◌ {A = Result T Stop} (Ok done) (Err stop) → ⊥
not_err is = cc

pub same_stop : {T : Type 0} {stop other : Stop} → ◌≡◌ {A = Result T Stop} (Err stop) (Err other) → stop ≡ other
same_stop is = cc

-- ---- what was given last

none_more : (h : List TimedCommand) → h ++ [] ≡ h
none_more [] = refl
none_more (o ∷ h) = ap (λ (l : List TimedCommand). o ∷ l) (none_more h)

module _ {D : Type 0} (g : Ghosts D) {M : Type 0} (fits : NamedItems → Type 0) (run : ℕ) (holds : Chooser → List TimedCommand → M →
    Type 0) (choose : Chooser) (h : List TimedCommand) (base : ℕ) (order : TimedCommand) (store : Store M) (first last : D) where
  -- nothing was given
  none_left : HasAdvanced g fits holds (outset choose h base (length h) run first) [] store last →
      IsLeft g fits holds (outset choose h base (length h) run first) (AtMost order) store last
  none_left gone = left_all g fits holds (outset choose h base (length h) run first) (AtMost order) [] store last (inl refl)
      (record {
        allowed = tt;
        same_run = gone.same_run;
        hold = subst (λ (n : ℕ). Represents g fits holds choose h base n store last) same hold;
        stood = subst (λ (some : List TimedCommand). AlwaysRecoverable g fits run choose some (length h) first last) (none_more h)
            gone.stood;
      }) where
        hold : Represents g fits holds choose h base gone.count store last
        hold = subst (λ (some : List TimedCommand). Represents g fits holds choose some base gone.count store last) (none_more h) gone.hold

        same : gone.count ≡ length h
        same = omega (arith, gone.kept, hold.staged.within)

  none_lasted : HasAdvanced g fits holds (outset choose h base (length h) run first) [] store last →
      HasLasted g fits (outset choose h base (length h) run first) (AtMost order) last
  none_lasted gone = record {
    orders = [];
    allowed = inl refl;
    stood = subst (λ (some : List TimedCommand). AlwaysRecoverable g fits run choose some (length h) first last) (none_more h) gone.stood;
  }

  by_loss : (lost : Bool) → HasAdvanced g fits holds (outset choose h base (length h) run first) [] store last →
      Ends lost g fits holds (outset choose h base (length h) run first) (AtMost order) store last
  by_loss true gone = none_lasted gone
  by_loss false gone = none_left gone

  one_lasted : (fault : CommitFault) → AlwaysRecoverable g fits run choose (h ++ adds (state_after choose h) order) (length h) first last →
      Ends (loses (of_commit fault)) g fits holds (outset choose h base (length h) run first) (AtMost order) store last
  one_lasted commits.Disk stood = record { orders = order ∷ []; allowed = inr refl; stood = stood }
  one_lasted (commits.Damaged file at) stood = record { orders = order ∷ []; allowed = inr refl; stood = stood }

  by_fault : (old : Store M) (fault : GiveFault) → old.run ≡ run →
      IsNotGiven g fits holds (outset choose h base (length h) old.run first) order old.drawn fault store last →
      Ends (loses (of_give fault)) g fits holds (outset choose h base (length h) run first) (AtMost order) store last
  by_fault old (Refused refusal) same not = by_loss (loses (of_refusal refusal))
      (subst (λ (r : ℕ). HasAdvanced g fits holds (outset choose h base (length h) r first) [] store last) same not.1)
  by_fault old (Commit fault) same stood = one_lasted fault
      (subst (λ (r : ℕ). AlwaysRecoverable g fits r choose (h ++ adds (state_after choose h) order) (length h) first last) same stood)

  pub stopped : (old : Store M) (fault : GiveFault) (stop : Stop) → old.run ≡ run → stop ≡ of_give fault →
      IsNotGiven g fits holds (outset choose h base (length h) old.run first) order old.drawn fault store last →
      Ends (loses stop) g fits holds (outset choose h base (length h) run first) (AtMost order) store last
  stopped old fault stop same is not = subst (λ (s : Stop). Ends (loses s) g fits holds (outset choose h base (length h) run first)
      (AtMost order) store last)
      (sym is) (by_fault old fault same not)

  pub left_by : (old : Store M) (answer : Accepted) → old.run ≡ run →
      IsKept g fits holds (outset choose h base (length h) old.run first) order old.drawn answer store last →
      IsLeft g fits holds (outset choose h base (length h) run first) (Only order) store last
  left_by old answer same kept =
      left_all g fits holds (outset choose h base (length h) run first) (Only order) (order ∷ []) store last refl
      (subst (λ (r : ℕ). HasKeptAll g fits holds (outset choose h base (length h) r first) (order ∷ []) store last) same kept.all)

  pub caused : (old : Store M) (fault : GiveFault) (stop : Stop) → stop ≡ of_give fault →
      IsNotGiven g fits holds (outset choose h base (length h) old.run first) order old.drawn fault store last → Caused choose old.drawn h
      order stop
  caused old (Refused refusal) stop is not = inl (refusal, is, not.0)
  caused old (Commit fault) stop is stood = inr (fault, is)

-- ---- commands that draw no number

pub undrawn : (choose : Chooser) (drawn : ℕ) (m : State) (order : TimedCommand) (refusal : Refusal) → draws order.command ≡ false →
    IsRefused choose false drawn m order refusal → IsRefused choose false 0 m order refusal
undrawn choose drawn m order refusals.Closed free why = why
undrawn choose drawn m order refusals.NoChannel free why = why
undrawn choose drawn m order refusals.ChannelOpen free why = why
undrawn choose drawn m order refusals.UnknownIndex free why = why
undrawn choose drawn m order refusals.NoBucket free why = why
undrawn choose drawn m order refusals.NotArchived free why = why
undrawn choose drawn m order refusals.AlreadyThawed free why = why
undrawn choose drawn m order refusals.TooManyChannels free why = why
undrawn choose drawn m order refusals.NoMemory free why = tt
undrawn choose drawn m order refusals.Full free why = record {
  no_cause = why.no_cause;
  over = λ both. why.over (both.0, λ is. absurd (not_both (draws order.command) is free));
} where
  not_both : (b : Bool) → b ≡ true → b ≡ false → ⊥
  not_both b one two = cc

pub undrawn_allowed : (choose : Chooser) (drawn : ℕ) (m : State) (order : TimedCommand) → draws order.command ≡ false →
    IsAllowed choose false drawn m order → IsAllowed choose false 0 m order
undrawn_allowed choose drawn m order free is = record {
  no_cause = is.no_cause;
  bounds = is.bounds;
  number = λ some. absurd (not_both (draws order.command) some free);
} where
  not_both : (b : Bool) → b ≡ true → b ≡ false → ⊥
  not_both b one two = cc

-- ---- settings are refused for want of room alone

settings_refused : (choose : Chooser) (h : List TimedCommand) (config : Config) (moment : ℤ) (refusal : Refusal) →
    IsRefused choose false 0 (state_after choose h) (configuring config moment) refusal →
    IsUnset choose h (configuring config moment) (of_refusal refusal)
settings_refused choose h config moment refusals.Closed why = cc
settings_refused choose h config moment refusals.NoChannel why = cc
settings_refused choose h config moment refusals.ChannelOpen why = cc
settings_refused choose h config moment refusals.UnknownIndex why = cc
settings_refused choose h config moment refusals.NoBucket why = cc
settings_refused choose h config moment refusals.NotArchived why = cc
settings_refused choose h config moment refusals.AlreadyThawed why = cc
settings_refused choose h config moment refusals.TooManyChannels why = cc
settings_refused choose h config moment refusals.Full why = why
settings_refused choose h config moment refusals.NoMemory why = tt

settings_uncommitted : (choose : Chooser) (h : List TimedCommand) (order : TimedCommand) (fault : CommitFault) →
    IsUnset choose h order (of_commit fault)
settings_uncommitted choose h order commits.Disk = tt
settings_uncommitted choose h order (commits.Damaged file at) = tt

pub unset : (choose : Chooser) (drawn : ℕ) (h : List TimedCommand) (config : Config) (moment : ℤ) (stop : Stop) →
    Caused choose drawn h (configuring config moment) stop → IsUnset choose h (configuring config moment) stop
unset choose drawn h config moment stop (inl why) =
    subst (λ (s : Stop). IsUnset choose h (configuring config moment) s) (sym why.1)
    (settings_refused choose h config moment why.0 (undrawn choose drawn (state_after choose h) (configuring config moment) why.0 refl
    why.2))
unset choose drawn h config moment stop (inr why) =
    subst (λ (s : Stop). IsUnset choose h (configuring config moment) s) (sym why.1)
    (settings_uncommitted choose h (configuring config moment) why.0)

pub sound_settings : (choose : Chooser) (h : List TimedCommand) (order : TimedCommand) (stop : Stop) → stop ≡ stops.Inconsistent →
    IsUnset choose h order stop → ⊥
sound_settings choose h order stop unsound why = subst (λ (s : Stop). IsUnset choose h order s) unsound why

pub consistent_mount : (fault : MountFault) → of_mount fault ≡ stops.Inconsistent → ⊥
consistent_mount mounts.Disk is = cc
consistent_mount (mounts.Damaged file at) is = cc
consistent_mount mounts.Full is = cc
consistent_mount mounts.NoMemory is = cc

pub full_of_mount : (fault : MountFault) → of_mount fault ≡ stops.Full → fault ≡ mounts.Full
full_of_mount mounts.Disk is = cc
full_of_mount (mounts.Damaged file at) is = cc
full_of_mount mounts.Full is = refl
full_of_mount mounts.NoMemory is = cc

-- What else is said of a run that mounts nothing.
pub disk_of_mount : (fault : MountFault) → of_mount fault ≡ stops.Disk → fault ≡ mounts.Disk
disk_of_mount mounts.Disk is = refl
disk_of_mount (mounts.Damaged file at) is = cc
disk_of_mount mounts.Full is = cc
disk_of_mount mounts.NoMemory is = cc

pub quiet_mount : (fault : MountFault) → is_output (of_mount fault) ≡ false
quiet_mount mounts.Disk = refl
quiet_mount (mounts.Damaged file at) = refl
quiet_mount mounts.Full = refl
quiet_mount mounts.NoMemory = refl

pub unread_mount : (fault : MountFault) → is_input (of_mount fault) ≡ false
unread_mount mounts.Disk = refl
unread_mount (mounts.Damaged file at) = refl
unread_mount mounts.Full = refl
unread_mount mounts.NoMemory = refl

pub short_mount : (fault : MountFault) → is_short_at (of_mount fault) ≡ true → fault ≡ mounts.Full
short_mount mounts.Disk is = cc
short_mount (mounts.Damaged file at) is = cc
short_mount mounts.Full is = refl
short_mount mounts.NoMemory is = cc

-- What else is said of a run whose last command is not given.
of_refused : (P : Stop → Type 0) (refusal : Refusal) → P stops.Inconsistent → P stops.NotFound → P stops.TooManyChannels → P stops.Full →
    P stops.Memory → P (of_refusal refusal)
of_refused P refusals.Closed unsound missing many full memory = unsound
of_refused P refusals.NoChannel unsound missing many full memory = unsound
of_refused P refusals.ChannelOpen unsound missing many full memory = unsound
of_refused P refusals.UnknownIndex unsound missing many full memory = missing
of_refused P refusals.NoBucket unsound missing many full memory = missing
of_refused P refusals.NotArchived unsound missing many full memory = missing
of_refused P refusals.AlreadyThawed unsound missing many full memory = missing
of_refused P refusals.TooManyChannels unsound missing many full memory = many
of_refused P refusals.Full unsound missing many full memory = full
of_refused P refusals.NoMemory unsound missing many full memory = memory

refused_keeps : (refusal : Refusal) → loses (of_refusal refusal) ≡ false
refused_keeps refusal = of_refused (λ (stop : Stop). loses stop ≡ false) refusal refl refl refl refl refl

pub quiet_give : (fault : GiveFault) → is_output (of_give fault) ≡ false
quiet_give (Refused refusal) = of_refused (λ (stop : Stop). is_output stop ≡ false) refusal refl refl refl refl refl
quiet_give (Commit commits.Disk) = refl
quiet_give (Commit (commits.Damaged file at)) = refl

pub unread_give : (fault : GiveFault) → is_input (of_give fault) ≡ false
unread_give (Refused refusal) = of_refused (λ (stop : Stop). is_input stop ≡ false) refusal refl refl refl refl refl
unread_give (Commit commits.Disk) = refl
unread_give (Commit (commits.Damaged file at)) = refl

pub disk_of_give : (fault : GiveFault) → of_give fault ≡ stops.Disk → fault ≡ Commit commits.Disk
disk_of_give (Refused refusal) is = let e : false ≡ true = sym (refused_keeps refusal) ∙ ap loses is in absurd (cc)
disk_of_give (Commit commits.Disk) is = refl
disk_of_give (Commit (commits.Damaged file at)) is = cc

-- a refused command leaves the store at rest
pub rest_of_give : {D : Type 0} (g : Ghosts D) (fits : NamedItems →
    Type 0) {M : Type 0} (store later : Store M) (disk last : D) (fault : GiveFault) →
    ((refusal : Refusal) → fault ≡ Refused refusal → IsUnchanged store later × (last ≡ disk)) → loses (of_give fault) ≡ false →
    CheckpointReady g store.committer disk → CheckpointReady g later.committer last
rest_of_give g fits store later disk last (Refused refusal) unchanged kept rest =
    let same = unchanged refusal refl in
    let committer = same.0.committer in
    subst (λ d. CheckpointReady g later.committer d) (sym same.1) (record {
      over = over_same g fits store.committer later.committer disk committer.logs rest.over;
      idle = idle_same g store.committer later.committer committer rest.idle;
      measured = measured_same g store.committer later.committer disk committer.logs.log committer.bytes rest.measured;
    })
rest_of_give g fits store later disk last (Commit commits.Disk) unchanged kept rest = absurd (cc)
rest_of_give g fits store later disk last (Commit (commits.Damaged file at)) unchanged kept rest = absurd (cc)

-- What else is said of a run whose input is not stored, or whose log is not made short.
pub quiet_run : (fault : RunFault) → is_output (of_run fault) ≡ false
quiet_run (runs.Given fault) = quiet_give fault
quiet_run runs.Input = refl
quiet_run runs.Endless = refl

pub disk_of_run : (fault : RunFault) → of_run fault ≡ stops.Disk → fault ≡ runs.Given (Commit commits.Disk)
disk_of_run (runs.Given fault) is = ap (λ (f : GiveFault). runs.Given f) (disk_of_give fault is)
disk_of_run runs.Input is = cc
disk_of_run runs.Endless is = cc

pub disk_of_checkpoint : (fault : CheckpointFault) → of_checkpoint fault ≡ stops.Disk → fault ≡ checkpoints.Disk
disk_of_checkpoint checkpoints.Disk is = refl
disk_of_checkpoint checkpoints.NoMemory is = cc
