-- One request served.
use Rattle.std.specs.Prelude.{◌≡◌, ◌≤◌, ◌⊎◌, ℕ, Bool, true, false, List, ◌++◌, map, length, Option, Some, None, Result, Ok, Err, IfOk}
use Rattle.std.specs.List.{list_any}
use Rattle.ix_base.specs.Faults.{Rose}
use Rattle.ix_base.specs.Told.{Told, HasWritten, HasBegun}
use Rattle.ix_base.specs.declared.files.File.{File}
use Rattle.ix_manifest.specs.Book.{NamedItems}
use Rattle.ix_disk.specs.Image.{Image, bytes_in}
use Rattle.ix_disk.specs.Moments.{Always}
use Rattle.ix_disk.specs.declared.disk.Disk.{Ghosts}
use Rattle.ix_heads.specs.declared.faults.LinkFault.TheVariants as link
use Rattle.ix_http.specs.Asked.{Fits}
use Rattle.ix_http.specs.Limits.{IsWithin}
use Rattle.ix_http.specs.declared.kinds.Incoming.TheVariants as was
use Rattle.ix_commit.specs.Snapshot.{IsLong}
use Rattle.ix_commit.specs.declared.committer.Committer.{Committer}
use Rattle.ix_net.specs.Links.{Standing}
use Rattle.ix_life.specs.declared.views.View.{View}
use Rattle.ix_model.specs.Given.{Chooser}
use Rattle.ix_model.specs.declared.commands.TimedCommand.{TimedCommand}
use Rattle.ix_store.specs.Holding.{Represents}
use Rattle.ix_store.specs.Placing.{ReadsBad}
use Rattle.ix_store.specs.declared.store.Store.{Store}
use Rattle.ix_serve.specs.Answer.{Answer, Found, Says, MayList, says, declined, is_whole}
use Rattle.ix_serve.specs.Entries.{Entry, is_acked, is_pending}
use Rattle.ix_serve.specs.Kinds.{Kind}
use Rattle.ix_serve.specs.Prefixes.{StandsIn}
use Rattle.ix_serve.specs.Replies.{Reply, acks, http_status, text_of}
use Rattle.ix_serve.specs.declared.served.Served.{Served}
use Rattle.ix_serve.specs.declared.served.Served.TheVariants as served
use Rattle.ix_serve.specs.declared.served.ServeFault.{ServeFault}
use Rattle.ix_serve.specs.declared.served.ServeFault.TheVariants as fault

-- the disk tells what a read gives
abbrev pub IsTold : {D : Type 0} → Ghosts D → D → Type 0
IsTold d disk = (image : Image) × (d.seen disk ≡ Some image)

-- the count of a link's faults has not risen, or that of the side that is written to
abbrev pub IsClean : ℕ → ℕ → Standing → Standing → Type 0
IsClean faults faults' standing standing' = (Rose faults faults' → ⊥) ⊎ (Rose standing.writing standing'.writing → ⊥)

-- ---- what is written

-- The reply was written. Where the link or the disk failed a front of it was, and all of it if the
-- link is clean.
abbrev pub Wrote : Reply → Bool → Type 0 → Result Served ServeFault → Option (List ℕ) → Option (List ℕ) → Type 0
Wrote r delimited clean (Ok served.Ended) given given' = ⊥
Wrote r delimited clean (Ok (served.Reply status whole unshortened)) given given' = (status ≡ r.status) × (whole ≡ delimited)
    × HasWritten (text_of r) given given'
Wrote r delimited clean (Err fault.Disk) given given' = HasBegun (text_of r) given given' × (clean → HasWritten (text_of r) given given')
Wrote r delimited clean (Err (fault.Damaged file at)) given given' = HasBegun (text_of r) given given'
    × (clean → HasWritten (text_of r) given given')
Wrote r delimited clean (Err fault.Link) given given' = HasBegun (text_of r) given given' × (clean → HasWritten (text_of r) given given')
Wrote r delimited clean (Err fault.Cut) given given' = ⊥

abbrev pub Gave : Option Reply → Bool → Type 0 → Result Served ServeFault → Option (List ℕ) → Option (List ℕ) → Type 0
Gave None delimited clean result given given' = given' ≡ given
Gave (Some r) delimited clean result given given' = Wrote r delimited clean result given given'

-- ---- what is held

-- the store is open still
abbrev pub IsOpen : Result Served ServeFault → Type 0
IsOpen (Ok value) = Unit {0}
IsOpen (Err fault.Disk) = ⊥
IsOpen (Err (fault.Damaged file at)) = ⊥
IsOpen (Err fault.Link) = Unit {0}
IsOpen (Err fault.Cut) = Unit {0}

abbrev pub still_open : Result Served ServeFault → Bool
still_open (Ok value) = true
still_open (Err fault.Disk) = false
still_open (Err (fault.Damaged file at)) = false
still_open (Err fault.Link) = true
still_open (Err fault.Cut) = true

-- no fewer commands are committed than before, and at a commit point all are
pub record HoldsFrom {D : Type 0} (d : Ghosts D) {M : Type 0} (fits : NamedItems → Type 0) (holds : Chooser → List TimedCommand → M →
    Type 0) (e : Entry) (commits : Bool) (history : List TimedCommand) (store : Store M) (disk : D) : Type 0 where
  pub count : ℕ
  pub least : e.kept ≤ count
  pub hold : Represents d fits holds e.choose history e.base count store disk
  pub all : commits ≡ true → count ≡ length history

-- damage is named as the disk reads, and as a state shows its buckets
abbrev pub IsPlaced : {D : Type 0} → Ghosts D → View → D → Result Served ServeFault → Type 0
IsPlaced d shown disk result = (file : File) (at : ℕ) → result ≡ Err (fault.Damaged file at) → ReadsBad d shown disk file at

-- damage that a commit meets is named where the file ends
abbrev pub IsPlacedAtEnd : {D : Type 0} → Ghosts D → D → Result Served ServeFault → Type 0
IsPlacedAtEnd d disk result = (file : File) (at : ℕ) → result ≡ Err (fault.Damaged file at) → (image : Image) →
    d.seen disk ≡ Some image → at ≡ length (bytes_in image file)

-- a listing, or want of memory, of which the disk is no part
pub record IsListed (e : Entry) (clean : Type 0) (result : Result Served ServeFault) (given given' : Option (List ℕ)) : Type 0 where
  pub reply : Reply
  pub may_be : MayList e (says false reply)
  pub gave : Wrote reply true clean result given given'

-- What is told of numbers, or want of memory, of which the disk is no part; and whether a commit is
-- due behind the reply.
pub record AreTold (e : Entry) (run : ℕ) (numbers : List ℕ) (clean : Type 0) (result : Result Served ServeFault) (due : Bool)
    (given given' : Option (List ℕ)) : Type 0 where
  pub reply : Reply
  pub may_be : (says due reply ≡ says (list_any (is_pending e run) numbers) (acks (map (is_acked e run) numbers)))
      ⊎ (says due reply ≡ declined)
  pub gave : Wrote reply true clean result given given'

-- ---- what comes of what was read, whatever the store holds

-- a reply was written, behind which another request may follow or not; or the link or the disk
-- failed
abbrev pub IsReplied : Bool → Result Served ServeFault → Type 0
IsReplied delimited (Ok served.Ended) = ⊥
IsReplied delimited (Ok (served.Reply status whole unshortened)) = whole ≡ delimited
IsReplied delimited (Err fault.Disk) = Unit {0}
IsReplied delimited (Err (fault.Damaged file at)) = Unit {0}
IsReplied delimited (Err fault.Link) = Unit {0}
IsReplied delimited (Err fault.Cut) = ⊥

-- with this status
abbrev pub HasStatus : ℕ → Result Served ServeFault → Type 0
HasStatus status (Ok served.Ended) = Unit {0}
HasStatus status (Ok (served.Reply replied whole unshortened)) = replied ≡ status
HasStatus status (Err cause) = Unit {0}

abbrev pub ComesOf : Found → Result Served ServeFault → Type 0
ComesOf (Ok was.Ended) result = result ≡ Ok served.Ended
ComesOf (Ok (was.Asked ask)) result = IsReplied true result
ComesOf (Ok (was.Refused why delimited)) result = IsReplied delimited result × HasStatus (http_status why) result
ComesOf (Err link.Failed) result = result ≡ Err fault.Link
ComesOf (Err link.Cut) result = result ≡ Err fault.Cut
ComesOf (Err (link.NoMemory whole)) result = IsReplied whole result × HasStatus 503 result

-- What was read of the bytes of the link, and what came of it.
pub record Reads (result : Result Served ServeFault) (left left' : Option (List ℕ)) : Type 0 where
  pub read : Found
  pub took : Told (Fits read) left left'
  pub within : IfOk read IsWithin
  pub comes : ComesOf read result

-- ---- how long the log is

-- A command is staged, or the log is not long, or it is told that there was no room for a
-- checkpoint.
abbrev pub IsShort : Bool → Committer → Bool → Type 0
IsShort staged committer unshortened = (staged ≡ true) ⊎ (IsLong committer.bytes committer.first → ⊥) ⊎ (unshortened ≡ true)

-- so it is behind a reply
abbrev pub IsShortBehind : Result Served ServeFault → Bool → Committer → Type 0
IsShortBehind (Ok served.Ended) staged committer = Unit {0}
IsShortBehind (Ok (served.Reply status whole unshortened)) staged committer = IsShort staged committer unshortened
IsShortBehind (Err cause) staged committer = Unit {0}

-- that there was no room is told only where the log is long
abbrev pub IsLongStill : Result Served ServeFault → Committer → Type 0
IsLongStill (Ok served.Ended) committer = Unit {0}
IsLongStill (Ok (served.Reply status whole unshortened)) committer = unshortened ≡ true → IsLong committer.bytes committer.first
IsLongStill (Err cause) committer = Unit {0}

-- ---- the whole

-- No damage is answered of a disk that tells what it reads.
abbrev pub IsUndamaged : {D : Type 0} → Ghosts D → D → Result Served ServeFault → Type 0
IsUndamaged d disk result = (file : File) (at : ℕ) → result ≡ Err (fault.Damaged file at) → (image : Image) → d.seen disk ≡ Some image → ⊥

-- What comes of a request over its link: the result, whether the link is clean, and what was
-- written to it before and behind.
pub record Outcome : Type 1 where
  pub result : Result Served ServeFault
  pub clean : Type 0
  pub given : Option (List ℕ)
  pub given' : Option (List ℕ)

abbrev pub outcome : Result Served ServeFault → Type 0 → Option (List ℕ) → Option (List ℕ) → Outcome
outcome result clean given given' = record { result = result; clean = clean; given = given; given' = given' }

-- One answer that may be given: what was written of it, what is held behind it, and that every
-- image since the start stands for this run and a prefix of the same history.
pub record Answers {D : Type 0} (d : Ghosts D) {M : Type 0} (kind : Kind M) (e : Entry) (may : Answer → Type 0) (delimited : Bool)
    (came : Outcome) (store : Store M) (old new : D) : Type 0 where
  pub answer : Answer
  pub may_be : may answer
  pub gave : Gave answer.reply delimited came.clean came.result came.given came.given'
  pub held : IsOpen came.result → HoldsFrom d kind.fits kind.holds e answer.commits (e.history ++ answer.more) store new
  pub images : Always d old new (StandsIn kind.fits e.run e.choose (e.history ++ answer.more) e.kept)
  pub undamaged : IsUndamaged d new came.result

-- One request: what was read of the bytes of the link, and what was answered to it.
pub record Serves {D : Type 0} (d : Ghosts D) {M : Type 0} (kind : Kind M) (e : Entry) (came : Outcome) (left left' : Option (List ℕ))
    (store : Store M) (old new : D) : Type 0 where
  pub read : Found
  pub took : Told (Fits read) left left'
  pub within : IfOk read IsWithin
  pub answers : Answers d kind e (Says e (IsTold d new) read came.result) (is_whole read) came store old new

-- the counts of faults never fall, and these answers come only where theirs rose
pub record Comes (link link' disk disk' : ℕ) (result : Result Served ServeFault) : Type 0 where
  pub link_later : link ≤ link'
  pub disk_later : disk ≤ disk'
  pub by_link : result ≡ Err fault.Link → Rose link link'
  pub by_disk : result ≡ Err fault.Disk → Rose disk disk'
