-- Results, and the faults that come of others.
use Rattle.std.proofs.Common.{◌≡◌, ℕ, refl, subst, Option, Some, Result, Ok, Err}
use Rattle.std.specs.Prelude.{IfSome, OnOk}
use Rattle.ix_base.specs.declared.files.File.{File}
use Rattle.ix_commit.specs.declared.fault.CommitFault.{CommitFault}
use Rattle.ix_commit.specs.declared.fault.CommitFault.TheVariants as commits
use Rattle.ix_model.specs.declared.answers.Refusal.{Refusal}
use Rattle.ix_model.specs.declared.answers.Refusal.TheVariants as refusals
use Rattle.ix_run.specs.declared.giving.GiveFault.{GiveFault}
use Rattle.ix_run.specs.declared.giving.GiveFault.TheVariants as gives
use Rattle.ix_store.specs.declared.fault.MountFault.{MountFault}
use Rattle.ix_store.specs.declared.fault.MountFault.TheVariants as mounts
use Rattle.indexd_selftest.specs.Faults.{of_commit, of_give, of_mount, of_refusal}
use Rattle.indexd_selftest.specs.declared.fault.SelftestFault.{SelftestFault}
use Rattle.indexd_selftest.specs.declared.fault.SelftestFault.TheVariants.{NoMemory, Full}

pub err_back : {A : Type 0} {a b : SelftestFault} → (let one : Result A SelftestFault = Err a in one ≡ Err b) → a ≡ b
err_back is = cc

pub not_full : {A : Type 0} → (let one : Result A SelftestFault = Err NoMemory in one ≡ Err Full) → ⊥
not_full is = cc

-- what holds at Ok leads to other things that do
pub on_ok : {A E : Type 0} (result : Result A E) (P Q : Type 0) → (P → Q) → OnOk result P → OnOk result Q
on_ok (Ok value) P Q leads holds = leads holds
on_ok (Err fault) P Q leads holds = tt

-- what holds of a value that is there
pub some_by : {X : Type 0} (found : Option X) (x : X) (P : X → Type 0) → found ≡ Some x → IfSome found P → P x
some_by {X} found x P is holds = subst (λ (o : Option X). IfSome o P) is holds

memory_not_full : (let fault : SelftestFault = NoMemory in fault ≡ Full) → ⊥
memory_not_full is = cc

-- a refusal that is no want of memory
pub no_memory : (refusal : Refusal) → of_refusal refusal ≡ Full → refusal ≡ refusals.NoMemory → ⊥
no_memory refusals.Closed full is = cc
no_memory refusals.NoChannel full is = cc
no_memory refusals.ChannelOpen full is = cc
no_memory refusals.UnknownIndex full is = cc
no_memory refusals.NoBucket full is = cc
no_memory refusals.NotArchived full is = cc
no_memory refusals.AlreadyThawed full is = cc
no_memory refusals.TooManyChannels full is = cc
no_memory refusals.Full full is = cc
no_memory refusals.NoMemory full is = memory_not_full full

-- a commit ends so only at damage
pub commit_full : (fault : CommitFault) → of_commit fault ≡ Full → ((file : File) (place : ℕ) → fault ≡ commits.Damaged file place → ⊥) →
    ⊥
commit_full commits.Disk full sound = memory_not_full full
commit_full (commits.Damaged file place) full sound = sound file place refl

-- a command that is given ends so only where it is refused, or at damage
pub give_full : {P : Type 0} (fault : GiveFault) → of_give fault ≡ Full →
    ((refusal : Refusal) → fault ≡ gives.Refused refusal → (refusal ≡ refusals.NoMemory → ⊥) → P) →
    ((file : File) (place : ℕ) → fault ≡ gives.Commit (commits.Damaged file place) → ⊥) → P
give_full (gives.Refused refusal) full refused sound = refused refusal refl (no_memory refusal full)
give_full (gives.Commit commits.Disk) full refused sound = absurd (memory_not_full full)
give_full (gives.Commit (commits.Damaged file place)) full refused sound = absurd (sound file place refl)

-- a mount ends so only where there is no further run, or at damage
pub mount_full : {P : Type 0} (fault : MountFault) → of_mount fault ≡ Full → (fault ≡ mounts.Full → P) →
    ((file : File) (place : ℕ) → fault ≡ mounts.Damaged file place → ⊥) → P
mount_full mounts.Disk full none sound = absurd (memory_not_full full)
mount_full (mounts.Damaged file place) full none sound = absurd (sound file place refl)
mount_full mounts.Full full none sound = none refl
mount_full mounts.NoMemory full none sound = absurd (memory_not_full full)
