-- Requests served one behind the other over one link.
use Rattle.std.specs.Prelude.{◌≡◌, ◌≤◌, ◌+◌, ◌⊎◌, ◌&&◌, ℕ, ℤ, Bool, true, false, List, [], ◌∷◌, ◌++◌, length, nat_eq, if◌then◌else◌}
use Rattle.std.specs.Prelude.{Option, Some, None, Result, Ok, Err}
use Rattle.std.specs.List.{AllByRecursion}
use Rattle.ix_base.specs.Clocks.{Moments, Answered}
use Rattle.ix_base.specs.Faults.{Rose}
use Rattle.ix_base.specs.Told.{Told, HasWritten, HasBegun}
use Rattle.ix_base.specs.declared.files.File.{File}
use Rattle.ix_manifest.specs.Book.{NamedItems}
use Rattle.ix_disk.specs.Image.{Image}
use Rattle.ix_disk.specs.Moments.{Always}
use Rattle.ix_disk.specs.declared.disk.Disk.{Ghosts}
use Rattle.ix_http.specs.Asked.{Fits}
use Rattle.ix_commit.specs.declared.fault.CommitFault.{CommitFault}
use Rattle.ix_commit.specs.declared.fault.CommitFault.TheVariants as commits
use Rattle.ix_model.specs.Given.{Chooser}
use Rattle.ix_model.specs.declared.commands.TimedCommand.{TimedCommand}
use Rattle.ix_life.specs.declared.views.View.{View}
use Rattle.ix_store.specs.Holding.{Represents}
use Rattle.ix_store.specs.Placing.{ReadsBad}
use Rattle.ix_store.specs.Written.{RecoversTo}
use Rattle.ix_store.specs.declared.store.Store.{Store}
use Rattle.ix_serve.specs.Answer.{Answer, Found, Says, is_whole}
use Rattle.ix_serve.specs.Entries.{Entry, entry}
use Rattle.ix_serve.specs.Kinds.{Kind}
use Rattle.ix_serve.specs.Prefixes.{StandsIn}
use Rattle.ix_serve.specs.Replies.{Reply, text_of}
use Rattle.ix_serve.specs.Serving.{IsTold, still_open}
use Rattle.ix_sessions.specs.declared.feed.Fed.{Fed}
use Rattle.ix_sessions.specs.declared.feed.Fed.TheVariants as fed
use Rattle.ix_serve.specs.declared.served.Served.{Served}
use Rattle.ix_serve.specs.declared.served.Served.TheVariants as served
use Rattle.ix_serve.specs.declared.served.ServeFault.{ServeFault}
use Rattle.ix_serve.specs.declared.served.ServeFault.TheVariants as fault

-- ---- the end of a run

abbrev pub most_requests : ℕ
most_requests = 4294967296

-- the end of a run behind a request, where it ends there
abbrev pub end_of : ℕ → Result Served ServeFault → Option Fed
end_of request (Ok served.Ended) = Some fed.Ended
end_of request (Ok (served.Reply status true unshortened)) = None
end_of request (Ok (served.Reply status false unshortened)) = Some (if nat_eq status 503 then fed.NoMemory else fed.Unreadable request)
end_of request (Err fault.Disk) = Some (fed.Broken commits.Disk)
end_of request (Err (fault.Damaged file at)) = Some (fed.Broken (commits.Damaged file at))
end_of request (Err fault.Link) = Some fed.Link
end_of request (Err fault.Cut) = Some (fed.Unreadable request)

-- all that was to be written was
abbrev pub IsWholeEnd : Fed → Type 0
IsWholeEnd fed.Ended = Unit {0}
IsWholeEnd (fed.Unreadable request) = Unit {0}
IsWholeEnd fed.NoMemory = Unit {0}
IsWholeEnd fed.Endless = Unit {0}
IsWholeEnd fed.Link = ⊥
IsWholeEnd (fed.Broken cause) = ⊥

-- the store is open still
abbrev pub is_open_end : Fed → Bool
is_open_end fed.Ended = true
is_open_end (fed.Unreadable request) = true
is_open_end fed.NoMemory = true
is_open_end fed.Endless = true
is_open_end fed.Link = true
is_open_end (fed.Broken cause) = false

-- ---- what a run is about

-- What a run of requests begins with: the history that store and disk hold, of which the first
-- `base` commands were there when the store was mounted and the first `kept` are committed; the
-- number of the run; and the disk.
pub record Start (D : Type 0) : Type 0 where
  pub choose : Chooser
  pub history : List TimedCommand
  pub base : ℕ
  pub kept : ℕ
  pub run : ℕ
  pub disk : D

abbrev pub start : {D : Type 0} → Chooser → List TimedCommand → ℕ → ℕ → ℕ → D → Start D
start choose history base kept run disk = record { choose = choose; history = history; base = base; kept = kept; run = run; disk = disk }

-- store and disk hold what the run begins with
abbrev pub HoldsStart : {D : Type 0} → Ghosts D → {M : Type 0} → Kind M → Start D → Store M → Type 0
HoldsStart d kind s store = Represents d kind.fits kind.holds s.choose s.history s.base s.kept store s.disk

-- what a link has left to be read, and what the clock is to tell
pub record Coming : Type 0 where
  pub left : Option (List ℕ)
  pub ahead : Option Moments

abbrev pub coming : Option (List ℕ) → Option Moments → Coming
coming left ahead = record { left = left; ahead = ahead }

-- that, and what was written to the link
pub record Talk : Type 0 where
  pub coming : Coming
  pub given : Option (List ℕ)

abbrev pub talk : Coming → Option (List ℕ) → Talk
talk coming given = record { coming = coming; given = given }

-- ---- turns

-- One request: how many commands were known as committed before it, its moment, what was read, what
-- was answered, what came of it, and the disk then. In lists of turns the last one stands first.
pub record Turn (D : Type 0) : Type 0 where
  pub kept : ℕ
  pub moment : ℤ
  pub read : Found
  pub answer : Answer
  pub result : Result Served ServeFault
  pub disk : D

-- the history behind them
abbrev pub history_after : {D : Type 0} → Start D → List (Turn D) → List TimedCommand
history_after s [] = s.history
history_after s (turn ∷ earlier) = history_after s earlier ++ turn.answer.more

-- the disk behind them
abbrev pub disk_after : {D : Type 0} → Start D → List (Turn D) → D
disk_after s [] = s.disk
disk_after s (turn ∷ earlier) = turn.disk

-- how many commands are known as committed behind them: all, where the last of them commits
abbrev pub known : {D : Type 0} → Start D → List (Turn D) → ℕ
known s [] = s.kept
known s (turn ∷ earlier) = if turn.answer.commits && still_open turn.result then length (history_after s earlier
    ++ turn.answer.more) else turn.kept

abbrev pub reply_text : Option Reply → List ℕ
reply_text None = []
reply_text (Some reply) = text_of reply

-- their replies, one behind the other
abbrev pub output : {D : Type 0} → List (Turn D) → List ℕ
output [] = []
output (turn ∷ earlier) = output earlier ++ reply_text turn.answer.reply

-- what there was when the request of a turn came
abbrev pub entry_of : {D : Type 0} → Start D → List (Turn D) → Turn D → Entry
entry_of s earlier turn = entry s.choose (history_after s earlier) s.base turn.kept s.run turn.moment

-- and when one comes at the start
abbrev pub first_entry : {D : Type 0} → Start D → ℤ → Entry
first_entry s moment = entry s.choose s.history s.base s.kept s.run moment

-- what comes of a request to which this is replied: the reply was written, or the link or the disk
-- failed
abbrev pub Came : Option Reply → Bool → Result Served ServeFault → Type 0
Came None delimited result = Unit {0}
Came (Some reply) delimited (Ok served.Ended) = ⊥
Came (Some reply) delimited (Ok (served.Reply status whole unshortened)) = (status ≡ reply.status) × (whole ≡ delimited)
Came (Some reply) delimited (Err fault.Disk) = Unit {0}
Came (Some reply) delimited (Err (fault.Damaged file at)) = Unit {0}
Came (Some reply) delimited (Err fault.Link) = Unit {0}
Came (Some reply) delimited (Err fault.Cut) = ⊥

-- each image has the first so many commands of the history behind these turns
abbrev pub Has : {D : Type 0} → (NamedItems → Type 0) → Start D → List (Turn D) → ℕ → Image → Type 0
Has fits s turns = StandsIn fits s.run s.choose (history_after s turns)

-- What is so of the images at a turn behind others. Since the one before each of them stands for
-- the run and a prefix of what was accepted up to then, with all that was known as committed when
-- the request came; and behind it with all that is known then.
pub record IsSafe {D : Type 0} (d : Ghosts D) (fits : NamedItems →
    Type 0) (s : Start D) (earlier : List (Turn D)) (turn : Turn D) : Type 0 where
  pub least : known s earlier ≤ turn.kept
  pub within : turn.kept ≤ length (history_after s earlier)
  pub images : Always d (disk_after s earlier) turn.disk (Has fits s (turn ∷ earlier) turn.kept)
  pub settled : (image : Image) → d.may_leave turn.disk image → Has fits s (turn ∷ earlier) (known s (turn ∷ earlier)) image

abbrev pub AreSafe : {D : Type 0} → Ghosts D → (NamedItems → Type 0) → Start D → List (Turn D) → Type 0
AreSafe d fits s [] = Unit {0}
AreSafe d fits s (turn ∷ earlier) = AreSafe d fits s earlier × IsSafe d fits s earlier turn

-- a turn behind others
pub record IsTurn {D : Type 0} (d : Ghosts D) (fits : NamedItems →
    Type 0) (s : Start D) (earlier : List (Turn D)) (turn : Turn D) (from to : Coming) : Type 0 where
  pub safe : IsSafe d fits s earlier turn
  pub took : Told (Fits turn.read) from.left to.left
  pub shown : Told (Answered turn.moment) from.ahead to.ahead
  pub says : Says (entry_of s earlier turn) (IsTold d turn.disk) turn.read turn.result turn.answer
  pub came : Came turn.answer.reply (is_whole turn.read) turn.result

abbrev pub AreTurns : {D : Type 0} → Ghosts D → (NamedItems → Type 0) → Start D → List (Turn D) → Coming → Coming → Type 0
AreTurns d fits s [] from to = to ≡ from
AreTurns d fits s (turn ∷ earlier) from to = (mid : Coming) × AreTurns d fits s earlier from mid × IsTurn d fits s earlier turn mid to

-- so many commands are no fewer than were known as committed at each of them
abbrev pub HasKnown : {D : Type 0} → ℕ → List (Turn D) → Type 0
HasKnown count [] = Unit {0}
HasKnown count (turn ∷ earlier) = (turn.kept ≤ count) × HasKnown count earlier

-- From this disk on to the other, every image stands for the run and a prefix of this history with
-- at least so many commands.
pub record HasSince {D : Type 0} (d : Ghosts D) (fits : NamedItems →
    Type 0) (s : Start D) (now : List TimedCommand) (n : ℕ) (from to : D) : Type 0 where
  pub at_first : (image : Image) → d.may_leave from image → StandsIn fits s.run s.choose now n image
  pub since : Always d from to (StandsIn fits s.run s.choose now n)

-- from the disk behind each of them on, every image has all that was known as committed then
abbrev pub Lasts : {D : Type 0} → Ghosts D → (NamedItems → Type 0) → Start D → List TimedCommand → D → List (Turn D) → Type 0
Lasts d fits s now new [] = Unit {0}
Lasts d fits s now new (turn ∷ earlier) = HasSince d fits s now (known s (turn ∷ earlier)) turn.disk new × Lasts d fits s now new earlier

-- at each of them the disk tells what it reads
abbrev pub AreTold : {D : Type 0} → Ghosts D → List (Turn D) → Type 0
AreTold d [] = Unit {0}
AreTold d (turn ∷ earlier) = IsTold d turn.disk × AreTold d earlier

-- behind none of them the run ended
abbrev pub GoOn : {D : Type 0} → List (Turn D) → Type 0
GoOn [] = Unit {0}
GoOn (turn ∷ earlier) = (end_of (length earlier + 1) turn.result ≡ None) × GoOn earlier

-- it ended behind the last, or there were as many as are served at the most
abbrev pub EndsWith : {D : Type 0} → Fed → List (Turn D) → Type 0
EndsWith end [] = ⊥
EndsWith end (turn ∷ earlier) = (end_of (length earlier + 1) turn.result ≡ Some end) × GoOn earlier

abbrev pub EndsBy : {D : Type 0} → Fed → List (Turn D) → Type 0
EndsBy end turns = EndsWith end turns ⊎ ((end ≡ fed.Endless) × (length turns ≡ most_requests) × GoOn turns)

-- Damage that ends a run is named as the disk reads, whatever it holds, and as the store shows its
-- buckets then.
abbrev pub IsPlacedEnd : {D : Type 0} → Ghosts D → View → D → Fed → Type 0
IsPlacedEnd d shown disk end = (file : File) (at : ℕ) → end ≡ fed.Broken (commits.Damaged file at) → ReadsBad d shown disk file at

-- No run over a disk that tells what it reads ends by damage.
abbrev pub IsUndamagedEnd : {D : Type 0} → Ghosts D → D → Fed → Type 0
IsUndamagedEnd d disk end = (file : File) (at : ℕ) → end ≡ fed.Broken (commits.Damaged file at) → (image : Image) →
    d.seen disk ≡ Some image → ⊥

-- ---- the whole

-- Since the start these turns were served, behind none of which the run ended. Their replies were
-- written, and their commands are held.
pub record Reaches {D : Type 0} (d : Ghosts D) {M : Type 0} (kind : Kind M) (s : Start D) (count : ℕ)
    (from to : Talk) (store : Store M) (new : D) : Type 0 where
  pub turns : List (Turn D)
  pub are : AreTurns d kind.fits s turns from.coming to.coming
  pub taken : AllByRecursion kind.takes (history_after s turns)
  pub served : length turns ≡ count
  pub on : GoOn turns
  pub written : HasWritten (output turns) from.given to.given
  pub at : disk_after s turns ≡ new
  pub kept : ℕ
  pub knows : known s turns ≤ kept
  pub hold : Represents d kind.fits kind.holds s.choose (history_after s turns) s.base kept store new
  pub told : IsTold d s.disk → IsTold d new × AreTold d turns

-- Turns to the end of a run.
pub record Feeds {D : Type 0} (d : Ghosts D) {M : Type 0} (kind : Kind M) (s : Start D) (end : Fed) (clean : Type 0)
    (from to : Talk) (store : Store M) (new : D) : Type 0 where
  pub turns : List (Turn D)
  pub are : AreTurns d kind.fits s turns from.coming to.coming
  pub taken : AllByRecursion kind.takes (history_after s turns)
  pub ends : EndsBy end turns
  pub written : IsWholeEnd end → HasWritten (output turns) from.given to.given
  pub sent : clean → HasWritten (output turns) from.given to.given
  pub begun : HasBegun (output turns) from.given to.given
  pub told : IsTold d s.disk → AreTold d turns
  pub held : is_open_end end ≡ true → (kept : ℕ) × (known s turns ≤ kept)
      × Represents d kind.fits kind.holds s.choose (history_after s turns) s.base kept store new
  pub behind : Always d (disk_after s turns) new (Has kind.fits s turns (known s turns))
  pub undamaged : IsUndamagedEnd d new end

-- the end of a run with a commit behind its turns: that of the turns, or the fault of the commit
abbrev pub EndsAs : {D : Type 0} → Fed → List (Turn D) → Type 0
EndsAs end turns = EndsBy end turns ⊎ ((cause : CommitFault) × (end ≡ fed.Broken cause) × (first : Fed) × (is_open_end first ≡ true)
    × EndsBy first turns)

-- A run with the commit at its end. What was written of its replies is all of them where the end is
-- no fault of the link or the disk, and also where the link is clean; else a front of them. Behind
-- the turns each image has all that is known as committed then: so it has each command that a reply
-- tells as stored.
pub record Runs {D : Type 0} (d : Ghosts D) {M : Type 0} (kind : Kind M) (s : Start D) (end : Fed) (clean : Type 0)
    (from to : Talk) (store : Store M) (new : D) : Type 0 where
  pub turns : List (Turn D)
  pub are : AreTurns d kind.fits s turns from.coming to.coming
  pub taken : AllByRecursion kind.takes (history_after s turns)
  pub ends : EndsAs end turns
  pub written : IsWholeEnd end → HasWritten (output turns) from.given to.given
  pub sent : clean → HasWritten (output turns) from.given to.given
  pub begun : HasBegun (output turns) from.given to.given
  pub told : IsTold d s.disk → AreTold d turns
  pub behind : Always d (disk_after s turns) new (Has kind.fits s turns (known s turns))
  pub undamaged : IsUndamagedEnd d new end
  -- all that was accepted is committed, and in every image, unless the disk is at fault
  pub held : is_open_end end ≡ true → Represents d kind.fits kind.holds s.choose (history_after s turns) s.base
      (length (history_after s turns)) store new
  pub all : is_open_end end ≡ true → (image : Image) → d.may_leave new image →
      RecoversTo kind.fits s.run s.choose (history_after s turns) image

-- the counts of faults never fall, and these ends come only where theirs rose
pub record Comes (link link' disk disk' : ℕ) (end : Fed) : Type 0 where
  pub link_later : link ≤ link'
  pub disk_later : disk ≤ disk'
  pub by_link : end ≡ fed.Link → Rose link link'
  pub by_disk : end ≡ fed.Broken commits.Disk → Rose disk disk'
