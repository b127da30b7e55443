-- What is said of a call that has failed, and of the one that it was made for.
use Rattle.std.proofs.Common.{◌≡◌, ◌<◌, ◌∙◌, ℕ, List, length, Result, Ok, Err, ap, subst, sym}
use Rattle.std.specs.Prelude.{OnErr, IsErrOf}
use Rattle.std.specs.Result.{IsErrAnd}
use Rattle.std.specs.Vec.{with_items}
use Rattle.std.specs.declared.vec.Vec.{Vec}
use Rattle.ix_base.specs.declared.files.File.{File}
use Rattle.ix_disk.specs.Image.{Image, Apart, Stays}
use Rattle.ix_disk.specs.Moments.{ImagesStep}
use Rattle.ix_disk.specs.declared.disk.Disk.{Ghosts}
use Rattle.ix_disk.proofs.Runs.{joined, nowhere}
use Rattle.ix_manifest.specs.declared.fault.CheckpointFault.{CheckpointFault}
use Rattle.ix_manifest.specs.declared.fault.CheckpointFault.TheVariants as short
use Rattle.ix_commit.specs.Mounting.{as_mount_too}
use Rattle.ix_commit.specs.declared.fault.CommitFault.{CommitFault}
use Rattle.ix_commit.specs.declared.fault.CommitFault.TheVariants as faults
use Rattle.ix_commit.specs.declared.mounting.MountFault.{MountFault}
use Rattle.ix_commit.specs.declared.mounting.MountFault.TheVariants as mounts

-- what holds is so after a failure
pub on_failure : {T E P : Type 0} (r : Result T E) → P → OnErr r P
on_failure (Ok x) p = tt
on_failure (Err e) p = p

-- an answer is no failure
pub no_failure : {T E : Type 0} (x : T) (e : E) → Ok x ≡ Err e → ⊥
no_failure x e is = cc

-- a fault of the disk is no damage
pub no_damage : {T : Type 0} (r : Result T CommitFault) (file : File) (at : ℕ) → IsErrAnd r (λ e. e ≡ faults.Disk) →
    r ≡ Err (faults.Damaged file at) → ⊥
no_damage (Ok x) file at failed is = absurd failed
no_damage (Err e) file at failed is = cc

-- and damage is no fault of the disk
pub damage_no_disk : {T : Type 0} (file : File) (at : ℕ) → IsErrOf {T = T} (Err (faults.Damaged file at)) faults.Disk → ⊥
damage_no_disk file at is = cc

pub disk_no_loss : {T : Type 0} (file : File) (at : ℕ) → IsErrOf {T = T} (Err faults.Disk) (faults.Damaged file at) → ⊥
disk_no_loss file at is = cc

-- what a commit fails for is what the call within it failed for
pub same_fault : {T X : Type 0} (inner : Result T CommitFault) (outer : Result X CommitFault) (own named : CommitFault) → inner ≡ Err own →
    IsErrAnd outer (λ e. e ≡ own) →
    outer ≡ Err named → inner ≡ Err named
same_fault inner (Ok x) own named was failed is = absurd failed
same_fault inner (Err e) own named was failed is = cc

-- a vector whose values were lent is as long behind the call
pub room_stays : {X Z : Type 0} (v : Vec X Z) (left : List X) → 0 < length v.items → 0 < length (with_items v left).items
room_stays v left some =
    let was : v.len ≡ length v.items = v.ok.0 in
    let is : v.len ≡ length (with_items v left).items = (with_items v left).ok.0 in
    subst (λ (n : ℕ). 0 < n) (sym was ∙ is) some

-- a fault of the disk is no want of memory
pub no_want : {T : Type 0} (r : Result T CheckpointFault) → IsErrAnd r (λ e. e ≡ short.Disk) → r ≡ Err short.NoMemory → ⊥
no_want (Ok x) failed is = absurd failed
no_want (Err e) failed is = cc

-- a fault that is handed on is the one that it was
pub handed_on : {T E : Type 0} (handed own named : E) → handed ≡ own → IsErrOf {T = T} (Err handed) named → own ≡ named
handed_on handed own named same is = cc

-- two failures for the same cause have that cause
pub one_fault : {T E : Type 0} (own named : E) → IsErrOf {T = T} (Err own) named → own ≡ named
one_fault own named is = cc

-- the causes for which nothing is mounted differ
pub full_no_disk : mounts.Full ≡ mounts.Disk → ⊥
full_no_disk is = cc

pub full_no_damage : (file : File) (at : ℕ) → mounts.Full ≡ mounts.Damaged file at → ⊥
full_no_damage file at is = cc

pub disk_no_full : mounts.Disk ≡ mounts.Full → ⊥
disk_no_full is = cc

pub disk_no_damage : (file : File) (at : ℕ) → mounts.Disk ≡ mounts.Damaged file at → ⊥
disk_no_damage file at is = cc

pub memory_no_full : mounts.NoMemory ≡ mounts.Full → ⊥
memory_no_full is = cc

pub memory_no_disk : mounts.NoMemory ≡ mounts.Disk → ⊥
memory_no_disk is = cc

pub memory_no_damage : (file : File) (at : ℕ) → mounts.NoMemory ≡ mounts.Damaged file at → ⊥
memory_no_damage file at is = cc

-- what a mount fails for is what the call within it failed for
pub same_mount : {T X : Type 0} (inner : Result T MountFault) (outer : Result X MountFault) (own named : MountFault) → inner ≡ Err own →
    IsErrAnd outer (λ e. e ≡ own) →
    outer ≡ Err named → inner ≡ Err named
same_mount inner (Ok x) own named was failed is = absurd failed
same_mount inner (Err e) own named was failed is = cc

-- and what a mount fails for behind a commit is what that failed for
pub commit_disk : {T X : Type 0} (inner : Result T CommitFault) (outer : Result X MountFault) (own : CommitFault) → inner ≡ Err own →
    IsErrAnd outer (λ e. e ≡ as_mount_too own) → IsErrOf outer mounts.Disk → IsErrOf inner faults.Disk
commit_disk inner (Ok x) own was failed is = absurd failed
commit_disk inner (Err e) faults.Disk was failed is = was
commit_disk inner (Err e) (faults.Damaged file at) was failed is = absurd cc

pub commit_lost : {T X : Type 0} (inner : Result T CommitFault) (outer : Result X MountFault) (own : CommitFault) (file : File) (at : ℕ) →
    inner ≡ Err own → IsErrAnd outer (λ e. e ≡ as_mount_too own) → outer ≡ Err (mounts.Damaged file at) →
    inner ≡ Err (faults.Damaged file at)
commit_lost inner (Ok x) own file at was failed is = absurd failed
commit_lost inner (Err e) faults.Disk file at was failed is = absurd cc
commit_lost inner (Err e) (faults.Damaged f a) file at was failed is = cc

-- a call that was not made leaves all other files
pub apart_none : {D : Type 0} (g : Ghosts D) (disk : D) (file : File) → ImagesStep g disk disk (Apart file)
apart_none g disk file =
    joined g disk disk disk Stays Stays (Apart file) (λ a b same other ne. ap (λ (i : Image). i other) same)
    (λ a b c one two other ne. ap (λ (i : Image). i other) (two ∙ one))
    (nowhere g disk) (nowhere g disk)
