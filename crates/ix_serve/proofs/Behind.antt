-- What becomes of an answer where a checkpoint is made behind its reply.
use Rattle.std.proofs.Common.{◌≡◌, ◌≤◌, ◌⊎◌, ◌∙◌, ℕ, Bool, true, false, List, ◌++◌, length, take, refl, sym, subst, inl, inr, Option, Some}
use Rattle.std.proofs.Common.{None, Result, Ok, Err, arith}
use Rattle.std.specs.Prelude.{◌↔◌, IsTrue, nat_lt}
use Rattle.std.proofs.lemmas.Bool.{false≢true}
use Rattle.std.proofs.lemmas.Bool.Decides.{nat_tests}
use Rattle.ix_base.specs.Faults.{Rose}
use Rattle.ix_base.specs.Told.{Told}
use Rattle.ix_manifest.specs.Book.{NamedItems}
use Rattle.ix_disk.specs.Image.{Image}
use Rattle.ix_disk.specs.Moments.{Always}
use Rattle.ix_disk.specs.declared.disk.Disk.{Ghosts}
use Rattle.ix_disk.proofs.Runs.{always_on, always_weaker, rose_later, seen_before}
use Rattle.ix_heads.specs.declared.faults.LinkFault.TheVariants as link
use Rattle.ix_http.specs.declared.kinds.Ask.{Ask}
use Rattle.ix_http.specs.declared.kinds.Ask.TheVariants as asks
use Rattle.ix_http.specs.declared.kinds.Incoming.TheVariants as was
use Rattle.ix_commit.specs.Snapshot.{IsLong}
use Rattle.ix_commit.specs.declared.fault.CommitFault.{CommitFault}
use Rattle.ix_commit.specs.declared.committer.Committer.{Committer}
use Rattle.ix_model.specs.Given.{Chooser}
use Rattle.ix_model.specs.declared.commands.TimedCommand.{TimedCommand}
use Rattle.ix_store.specs.Holding.{Represents}
use Rattle.ix_store.specs.Written.{RecoversTo}
use Rattle.ix_store.specs.declared.store.Store.{Store}
use Rattle.ix_serve.specs.Answer.{Answer, Found, Says, MayBe, answer_of_fault, is_whole}
use Rattle.ix_serve.specs.Entries.{Entry}
use Rattle.ix_serve.specs.Kinds.{Kind}
use Rattle.ix_serve.specs.Prefixes.{StandsIn}
use Rattle.ix_serve.specs.Replies.{Reply}
use Rattle.ix_serve.specs.Serving.{Comes, Gave, IsOpen, IsShort, IsTold, IsUndamaged, Serves, outcome}
use Rattle.ix_serve.specs.declared.served.Served.{Served}
use Rattle.ix_serve.specs.declared.served.Served.TheVariants as served
use Rattle.ix_serve.specs.declared.served.ServeFault.{ServeFault}
use Rattle.ix_serve.specs.declared.served.ServeFault.TheVariants as fault
use Rattle.ix_serve.proofs.Answering.{gave_up, err_back, no_link, not_open, open_undamaged}
use Rattle.ix_serve.proofs.Standing.{committing, of_all}

-- ---- what is said

pub ok_err : {T E : Type 0} {value : T} {error : E} → Ok value ≡ Err error → ⊥
ok_err is = cc

not_ended : {status : ℕ} {whole unshortened : Bool} → (let reply : Result Served ServeFault = Ok (served.Reply status whole unshortened) in
    reply ≡ Ok served.Ended) → ⊥
not_ended is = cc

module _ (e : Entry) (told told' : Type 0) (so : told' →
    told) (status : ℕ) (whole unshortened : Bool) (result : Result Served ServeFault) (a : Answer) where
  ask_behind : (ask : Ask) → MayBe e told ask (Ok (served.Reply status whole unshortened)) a → MayBe e told' ask result a
  ask_behind (asks.Begin channel meta) is = is
  ask_behind (asks.Block channel bytes) is = is
  ask_behind (asks.End channel) is = is
  ask_behind (asks.Acks run numbers) is = is
  ask_behind asks.Buckets is = is
  ask_behind (asks.Events index range) (inl is) = inl (
    is.0,
    record { lines = is.1.lines; is = is.1.is; known = λ tells. is.1.known (so tells) },
    is.2,
  )
  ask_behind (asks.Events index range) (inr (inl is)) = inr (inl is)
  ask_behind (asks.Events index range) (inr (inr is)) = absurd (ok_err is.1)

  -- what is said with a reply may be said with anything that comes of it
  pub says_behind : (read : Found) → Says e told read (Ok (served.Reply status whole unshortened)) a → Says e told' read result a
  says_behind (Ok was.Ended) is = absurd (not_ended is.0)
  says_behind (Ok (was.Asked ask)) is = ask_behind ask is
  says_behind (Ok (was.Refused why delimited)) is = is
  says_behind (Err link.Failed) is = absurd (ok_err is.0)
  says_behind (Err link.Cut) is = absurd (ok_err is.0)
  says_behind (Err (link.NoMemory all)) is = is

-- ---- what was written

-- the reply was written, also where it is told that there was no room
pub gave_reply : (r : Option Reply) (delimited : Bool) (clean : Type 0) (status : ℕ) (whole unshortened unshortened' : Bool)
    (given given' : Option (List ℕ)) →
    Gave r delimited clean (Ok (served.Reply status whole unshortened)) given given' →
    Gave r delimited clean (Ok (served.Reply status whole unshortened')) given given'
gave_reply None delimited clean status whole unshortened unshortened' given given' is = is
gave_reply (Some r) delimited clean status whole unshortened unshortened' given given' is = is

-- and where a fault is answered behind it
pub gave_fault : (r : Option Reply) (delimited : Bool) (clean : Type 0) (result : Result Served ServeFault) (cause : CommitFault)
    (given given' : Option (List ℕ)) →
    Gave r delimited clean result given given' → Gave r delimited clean (Err (answer_of_fault cause)) given given'
gave_fault None delimited clean result cause given given' is = is
gave_fault (Some r) delimited clean result cause given given' is = gave_up r delimited clean result cause given given' is

-- ---- faults

module _ (link link' disk disk' disk'' : ℕ) (came : Result Served ServeFault) (first : Comes link link' disk disk' came)
    (later : disk' ≤ disk'') where
  -- the reply is what comes of it
  pub comes_reply : (value : Served) → Comes link link' disk disk'' (Ok value)
  comes_reply value = record {
    link_later = first.link_later;
    disk_later = omega (arith, first.disk_later, later);
    by_link = λ is. absurd (ok_err is);
    by_disk = λ is. absurd (ok_err is);
  }

  -- the disk has failed behind the reply
  pub comes_fault : (error : ServeFault) (cause : CommitFault) → error ≡ answer_of_fault cause → (error ≡ fault.Disk → Rose disk' disk'') →
      Comes link link' disk disk'' (Err error)
  comes_fault error cause same rose = record {
    link_later = first.link_later;
    disk_later = omega (arith, first.disk_later, later);
    by_link = λ is. absurd (no_link cause (sym same ∙ err_back error fault.Link is));
    by_disk = λ is. rose_later disk disk' disk'' first.disk_later (rose (err_back error fault.Disk is));
  }

-- ---- what is held

-- a disk that tells what it reads told it before
told_before : {D : Type 0} (g : Ghosts D) (step : Image → Image → Type 0) (old new : D) → Told step (g.seen old) (g.seen new) →
    IsTold g new → IsTold g old
told_before g step old new told is = let before = seen_before step (g.seen old) (g.seen new) told is.0 is.1 in (before.0, before.1)

fewer : (fits : NamedItems → Type 0) (run : ℕ) (choose : Chooser) (h : List TimedCommand) (least k : ℕ) → least ≤ k → (image : Image) →
    StandsIn fits run choose h k image → StandsIn fits run choose h least image
fewer fits run choose h least k le image is = record {
  count = is.count;
  least = omega (arith, le, is.least);
  most = is.most;
  stands = is.stands;
}

disk_undamaged : {D : Type 0} (g : Ghosts D) (new : D) (error : ServeFault) → error ≡ fault.Disk → IsUndamaged g new (Err error)
disk_undamaged g new error failed file at is image seen = cc

module _ {D : Type 0} (g : Ghosts D) {M : Type 0} (kind : Kind M) (e : Entry) (clean : Type 0) (came : Result Served ServeFault)
    (status : ℕ) (whole unshortened : Bool) (left left' given given' : Option (List ℕ)) (mid store : Store M) (old between new : D)
    (step : Image → Image → Type 0)
    (first : Serves g kind e (outcome came clean given given') left left' mid old between)
    (is : came ≡ Ok (served.Reply status whole unshortened)) (told : Told step (g.seen between) (g.seen new)) where
  abbrev pub after : List TimedCommand
  after = e.history ++ first.answers.answer.more

  stayed : IsOpen came
  stayed = subst IsOpen (sym is) tt

  -- what is held behind the reply goes on being held, and the reply is the answer still
  pub serves_behind : (result : Result Served ServeFault) →
      (Gave first.answers.answer.reply (is_whole first.read) clean came given given' →
      Gave first.answers.answer.reply (is_whole first.read) clean result given given') →
      (IsOpen result → (k : ℕ) → Represents g kind.fits kind.holds e.choose after e.base k mid between →
      Represents g kind.fits kind.holds e.choose after e.base k store new) →
      ((k : ℕ) → Represents g kind.fits kind.holds e.choose after e.base k mid between →
      Always g between new (StandsIn kind.fits e.run e.choose after k)) →
      ((k : ℕ) → Represents g kind.fits kind.holds e.choose after e.base k mid between → IsUndamaged g new result) →
      Serves g kind e (outcome result clean given given') left left' store old new
  serves_behind result gave held images undamaged =
      let was = first.answers.held stayed in
      record {
        read = first.read;
        took = first.took;
        within = first.within;
        answers = record {
          answer = first.answers.answer;
          may_be = says_behind e (IsTold g between) (IsTold g new) (told_before g step between new told) status whole unshortened result
              first.answers.answer first.read
              (subst (λ (r : Result Served ServeFault). Says e (IsTold g between) first.read r first.answers.answer) is
              first.answers.may_be);
          gave = gave first.answers.gave;
          held = λ stays. record { count = was.count; least = was.least; hold = held stays was.count was.hold; all = was.all };
          images = always_on g old between new (StandsIn kind.fits e.run e.choose after e.kept) first.answers.images
              (always_weaker g between new (StandsIn kind.fits e.run e.choose after was.count)
              (StandsIn kind.fits e.run e.choose after e.kept)
              (fewer kind.fits e.run e.choose after e.kept was.count was.least) (images was.count was.hold));
          undamaged = undamaged was.count was.hold;
        };
      }

  -- the reply is what comes of it, with what is told of the checkpoint
  pub serves_short : (now : Bool) → ((k : ℕ) → Represents g kind.fits kind.holds e.choose after e.base k mid between →
      Represents g kind.fits kind.holds e.choose after e.base k store new) →
      ((k : ℕ) → Represents g kind.fits kind.holds e.choose after e.base k mid between →
      Always g between new (StandsIn kind.fits e.run e.choose after k)) →
      Serves g kind e (outcome (Ok (served.Reply status whole now)) clean given given') left left' store old new
  serves_short now held images = serves_behind (Ok (served.Reply status whole now))
      (λ gave. gave_reply first.answers.answer.reply (is_whole first.read) clean status whole unshortened now given given'
      (subst (λ (r : Result Served ServeFault). Gave first.answers.answer.reply (is_whole first.read) clean r given given') is gave))
      (λ stays. held) images (λ k hold. open_undamaged g new (Ok (served.Reply status whole now)) tt)

  -- the disk has failed behind the reply
  pub serves_failed : (error : ServeFault) (cause : CommitFault) → error ≡ answer_of_fault cause →
      ((k : ℕ) → Represents g kind.fits kind.holds e.choose after e.base k mid between → error ≡ fault.Disk) →
      ((k : ℕ) → Represents g kind.fits kind.holds e.choose after e.base k mid between →
      Always g between new (StandsIn kind.fits e.run e.choose after k)) →
      Serves g kind e (outcome (Err error) clean given given') left left' store old new
  serves_failed error cause same failed images = serves_behind (Err error)
      (λ gave. subst (λ (f : ServeFault). Gave first.answers.answer.reply (is_whole first.read) clean (Err f) given given') (sym same)
      (gave_fault first.answers.answer.reply (is_whole first.read) clean came cause given given' gave))
      (λ stays. absurd (not_open error cause same stays)) images
      (λ k hold. disk_undamaged g new error (failed k hold))

-- ---- the checkpoint

-- what is told behind a checkpoint is whether the log is long
pub short_told : (long staged : Bool) (committer : Committer) → (IsTrue long ↔ IsLong committer.bytes committer.first) →
    IsShort staged committer long
short_told true staged committer is = inr (inr refl)
short_told false staged committer is = inr (inl (λ long. false≢true (is.1 long)))

-- nothing is staged, so all is committed
pub all_in : (k n : ℕ) → k ≤ n → nat_lt k n ≡ false → k ≡ n
all_in k n le none = grind (arith, nat_tests)

-- what every image stands for, through a commit and a checkpoint
pub shortened_images : {D : Type 0} (g : Ghosts D) (fits : NamedItems →
    Type 0) (run run' : ℕ) (choose : Chooser) (h : List TimedCommand) (k : ℕ) (old mid new : D) → k ≤ length h → run' ≡ run →
    Always g old mid (λ (image : Image). RecoversTo fits run choose (take k h) image ⊎ RecoversTo fits run choose h image) →
    Always g mid new (RecoversTo fits run' choose h) → Always g old new (StandsIn fits run choose h k)
shortened_images g fits run run' choose h k old mid new within same first last =
    always_on g old mid new (StandsIn fits run choose h k) (committing fits run choose h k within g old mid first)
    (always_weaker g mid new (RecoversTo fits run' choose h) (StandsIn fits run choose h k)
    (λ image is. of_all fits run choose h k within image (subst (λ (n : ℕ). RecoversTo fits n choose h image) same is)) last)

pub shortened_held : {D : Type 0} (g : Ghosts D) {M : Type 0} (fits : NamedItems → Type 0) (holds : Chooser → List TimedCommand → M →
    Type 0) (choose : Chooser) (h : List TimedCommand) (base k : ℕ) (store : Store M) (disk : D) →
    k ≡ length h → Represents g fits holds choose h base (length h) store disk → Represents g fits holds choose h base k store disk
shortened_held g fits holds choose h base k store disk same hold =
    subst (λ (n : ℕ). Represents g fits holds choose h base n store disk) (sym same) hold
