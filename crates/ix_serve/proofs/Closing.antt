-- Whether the store is closed, and what comes of what was read.
use Rattle.std.proofs.Common.{◌≡◌, ◌⊎◌, ◌∙◌, ◌||◌, ℕ, Bool, true, false, List, refl, sym, ap, subst, inl, ⊎_elim, Option, Some, Result, Ok, Err}
use Rattle.std.specs.Prelude.{IfOk}
use Rattle.std.proofs.lemmas.Bool.{false≢true}
use Rattle.ix_base.specs.Told.{Told}
use Rattle.ix_base.specs.declared.files.File.{File}
use Rattle.ix_disk.specs.Image.{Image}
use Rattle.ix_disk.specs.declared.disk.Disk.{Ghosts}
use Rattle.ix_heads.specs.declared.faults.LinkFault.TheVariants as link
use Rattle.ix_http.specs.Asked.{Fits}
use Rattle.ix_http.specs.Limits.{IsWithin}
use Rattle.ix_http.specs.declared.kinds.Incoming.TheVariants as was
use Rattle.ix_commit.specs.declared.fault.CommitFault.{CommitFault}
use Rattle.ix_commit.specs.declared.fault.CommitFault.TheVariants as commits
use Rattle.ix_life.specs.declared.views.View.{View}
use Rattle.ix_store.specs.Holding.{is_closed}
use Rattle.ix_store.specs.Placing.{IsBadPlace}
use Rattle.ix_store.specs.declared.store.Store.{Store}
use Rattle.ix_serve.specs.Answer.{Found, answer_of_fault}
use Rattle.ix_serve.specs.Replies.{Reply}
use Rattle.ix_serve.specs.Serving.{Gave, ComesOf, HasStatus, IsOpen, IsPlaced, IsPlacedAtEnd, IsReplied, Reads, still_open}
use Rattle.ix_serve.specs.declared.served.Served.{Served}
use Rattle.ix_serve.specs.declared.served.Served.TheVariants as served
use Rattle.ix_serve.specs.declared.served.ServeFault.{ServeFault}
use Rattle.ix_serve.specs.declared.served.ServeFault.TheVariants as fault

pub open_still : (result : Result Served ServeFault) → IsOpen result → still_open result ≡ false → ⊥
open_still (Ok value) up down = false≢true (sym down)
open_still (Err fault.Disk) up down = up
open_still (Err (fault.Damaged file at)) up down = up
open_still (Err fault.Link) up down = false≢true (sym down)
open_still (Err fault.Cut) up down = false≢true (sym down)

pub by_committer : {M : Type 0} (store : Store M) → store.committer.closed ≡ true → is_closed store ≡ true
by_committer store is = ap (λ (b : Bool). b || store.closed) is

or_true : (a b : Bool) → b ≡ true → (a || b) ≡ true
or_true true b is = refl
or_true false b is = is

pub by_export : {M : Type 0} (store : Store M) (before closes : Bool) → is_closed store ≡ (before || closes) → closes ≡ true →
    is_closed store ≡ true
by_export store before closes is so = is ∙ or_true before closes so

-- ---- the place of damage

pub open_placed : {D : Type 0} (g : Ghosts D) (disk : D) (result : Result Served ServeFault) → IsOpen result →
    IsPlacedAtEnd g disk result
open_placed g disk result up file at is = absurd (subst IsOpen is up)

pub placed_at_end : {D : Type 0} (g : Ghosts D) (shown : View) (disk : D) (result : Result Served ServeFault) →
    IsPlacedAtEnd g disk result → IsPlaced g shown disk result
placed_at_end g shown disk result ends file at is image told = inl (ends file at is image told)

-- it is shown as before
pub placed_as : (shown shown' : View) (image : Image) (f file : File) (a at : ℕ) → shown' ≡ shown →
    commits.Damaged f a ≡ commits.Damaged file at → IsBadPlace shown image f a → IsBadPlace shown' image file at
placed_as shown shown' image f file a at same is bad =
    let files : f ≡ file = cc in
    let places : a ≡ at = cc in
    subst (λ (seen : View). IsBadPlace seen image file at) (sym same)
    (subst (λ (x : File). IsBadPlace shown image x at) files (subst (IsBadPlace shown image f) places bad))

pub not_damaged : (file : File) (at : ℕ) → fault.Disk ≡ fault.Damaged file at → ⊥
not_damaged file at is = cc

-- ---- replies

pub replied_by : (r : Reply) (delimited : Bool) (clean : Type 0) (result : Result Served ServeFault) (given given' : Option (List ℕ)) →
    Gave (Some r) delimited clean result given given' → IsReplied delimited result
replied_by r delimited clean (Ok served.Ended) given given' is = is
replied_by r delimited clean (Ok (served.Reply status whole unshortened)) given given' is = is.1
replied_by r delimited clean (Err fault.Disk) given given' is = tt
replied_by r delimited clean (Err (fault.Damaged file at)) given given' is = tt
replied_by r delimited clean (Err fault.Link) given given' is = tt
replied_by r delimited clean (Err fault.Cut) given given' is = is

pub status_by : (r : Reply) (delimited : Bool) (clean : Type 0) (result : Result Served ServeFault) (given given' : Option (List ℕ)) →
    Gave (Some r) delimited clean result given given' → HasStatus r.status result
status_by r delimited clean (Ok served.Ended) given given' is = tt
status_by r delimited clean (Ok (served.Reply status whole unshortened)) given given' is = is.0
status_by r delimited clean (Err cause) given given' is = tt

replied_fault : (delimited : Bool) (cause : CommitFault) → IsReplied delimited (Err (answer_of_fault cause))
replied_fault delimited commits.Disk = tt
replied_fault delimited (commits.Damaged file at) = tt

pub replied_err : (delimited : Bool) (cause : CommitFault) (result : Result Served ServeFault) → result ≡ Err (answer_of_fault cause) →
    IsReplied delimited result
replied_err delimited cause result is = subst (IsReplied delimited) (sym is) (replied_fault delimited cause)

pub replied_settled : (delimited : Bool) (came result : Result Served ServeFault) → (result ≡ came)
    ⊎ ((cause : CommitFault) × (result ≡ Err (answer_of_fault cause))) → IsReplied delimited came → IsReplied delimited result
replied_settled delimited came result either is = ⊎_elim
    (λ (same : result ≡ came). subst (IsReplied delimited) (sym same) is)
    (λ (w : (cause : CommitFault) × (result ≡ Err (answer_of_fault cause))). replied_err delimited w.0 result w.1)
    either

-- ---- what was read

pub reads_so : (found read : Found) (came : Result Served ServeFault) (left left' left'' : Option (List ℕ)) → found ≡ read →
    left'' ≡ left' → Told (Fits found) left left' → IfOk found IsWithin → ComesOf read came → Reads came left left''
reads_so found read came left left' left'' is same took within comes = record {
  read = read;
  took = subst (λ (x : Option (List ℕ)). Told (Fits read) left x) (sym same) (subst (λ (f : Found). Told (Fits f) left left') is took);
  within = subst (λ (f : Found). IfOk f IsWithin) is within;
  comes = comes;
}

comes_again : (read : Found) (status : ℕ) (whole unshortened unshortened' : Bool) →
    (let came : Result Served ServeFault = Ok (served.Reply status whole unshortened) in ComesOf read came) →
    ComesOf read (Ok (served.Reply status whole unshortened'))
comes_again (Ok was.Ended) status whole unshortened unshortened' is = absurd (cc is)
comes_again (Ok (was.Asked ask)) status whole unshortened unshortened' is = is
comes_again (Ok (was.Refused why delimited)) status whole unshortened unshortened' is = is
comes_again (Err link.Failed) status whole unshortened unshortened' is = absurd (cc is)
comes_again (Err link.Cut) status whole unshortened unshortened' is = absurd (cc is)
comes_again (Err (link.NoMemory all)) status whole unshortened unshortened' is = is

comes_fault : (read : Found) (status : ℕ) (whole unshortened : Bool) (cause : CommitFault) →
    (let came : Result Served ServeFault = Ok (served.Reply status whole unshortened) in ComesOf read came) →
    ComesOf read (Err (answer_of_fault cause))
comes_fault (Ok was.Ended) status whole unshortened cause is = absurd (cc is)
comes_fault (Ok (was.Asked ask)) status whole unshortened cause is = replied_fault true cause
comes_fault (Ok (was.Refused why delimited)) status whole unshortened cause is = (replied_fault delimited cause, tt)
comes_fault (Err link.Failed) status whole unshortened cause is = absurd (cc is)
comes_fault (Err link.Cut) status whole unshortened cause is = absurd (cc is)
comes_fault (Err (link.NoMemory all)) status whole unshortened cause is = (replied_fault all cause, tt)

module _ (came : Result Served ServeFault) (status : ℕ) (whole unshortened : Bool) (left left' : Option (List ℕ))
    (is : came ≡ Ok (served.Reply status whole unshortened)) (reads : Reads came left left') where
  pub reads_again : (now : Bool) → Reads (Ok (served.Reply status whole now)) left left'
  reads_again now = record {
    read = reads.read;
    took = reads.took;
    within = reads.within;
    comes = comes_again reads.read status whole unshortened now (subst (ComesOf reads.read) is reads.comes);
  }

  pub reads_fault : (error : ServeFault) (cause : CommitFault) → error ≡ answer_of_fault cause → Reads (Err error) left left'
  reads_fault error cause same = record {
    read = reads.read;
    took = reads.took;
    within = reads.within;
    comes = subst (λ (f : ServeFault). ComesOf reads.read (Err f)) (sym same)
        (comes_fault reads.read status whole unshortened cause (subst (ComesOf reads.read) is reads.comes));
  }
