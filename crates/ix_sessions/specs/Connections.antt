-- Requests served over a connection each.
use Rattle.std.specs.Prelude.{◌≡◌, ◌≤◌, ◌<◌, ◌⊎◌, ℕ, ℤ, Bool, true, false, List, [], ◌∷◌, ◌++◌, length, Option, Some, None, Result, Ok}
use Rattle.std.specs.Prelude.{Err, IfSome}
use Rattle.std.specs.List.{AllByRecursion}
use Rattle.ix_base.specs.Clocks.{Moments, Answered}
use Rattle.ix_base.specs.Faults.{Rose}
use Rattle.ix_base.specs.Told.{Told, IsFrontOf}
use Rattle.ix_base.specs.declared.files.File.{File}
use Rattle.ix_manifest.specs.Book.{NamedItems}
use Rattle.ix_disk.specs.Image.{Image}
use Rattle.ix_disk.specs.Moments.{Always}
use Rattle.ix_disk.specs.declared.disk.Disk.{Ghosts}
use Rattle.ix_http.specs.Asked.{Fits}
use Rattle.ix_commit.specs.declared.fault.CommitFault.{CommitFault}
use Rattle.ix_commit.specs.declared.fault.CommitFault.TheVariants as commits
use Rattle.ix_net.specs.Listeners.{Handed, TakesFirst, Adds}
use Rattle.ix_life.specs.declared.views.View.{View}
use Rattle.ix_store.specs.Holding.{Represents}
use Rattle.ix_store.specs.Placing.{ReadsBad}
use Rattle.ix_store.specs.Written.{RecoversTo}
use Rattle.ix_store.specs.declared.store.Store.{Store}
use Rattle.ix_serve.specs.Answer.{Answer, Found, Says, is_whole}
use Rattle.ix_serve.specs.Prefixes.{StandsIn}
use Rattle.ix_serve.specs.Replies.{Reply}
use Rattle.ix_serve.specs.Serving.{HoldsFrom, IsOpen, IsTold, IsUndamaged}
use Rattle.ix_serve.specs.declared.served.Served.{Served}
use Rattle.ix_serve.specs.declared.served.ServeFault.{ServeFault}
use Rattle.ix_serve.specs.declared.served.ServeFault.TheVariants as fault
use Rattle.ix_serve.specs.Kinds.{Kind}
use Rattle.ix_sessions.specs.Feeding.{Start, Turn, IsTurn, AreTold, Came, Has, coming, history_after, disk_after, known, reply_text}
use Rattle.ix_sessions.specs.Feeding.{first_entry}
use Rattle.ix_sessions.specs.declared.serve.Heard.{Heard}
use Rattle.ix_sessions.specs.declared.serve.Heard.TheVariants as heard

-- ---- the end of a run

-- the fault of the disk that ends a run behind what came of a request
abbrev pub break_of : Result Served ServeFault → Option CommitFault
break_of (Ok served) = None
break_of (Err fault.Disk) = Some commits.Disk
break_of (Err (fault.Damaged file at)) = Some (commits.Damaged file at)
break_of (Err fault.Link) = None
break_of (Err fault.Cut) = None

-- the store is open still
abbrev pub is_open_end : Heard → Bool
is_open_end heard.Done = true
is_open_end heard.Listener = true
is_open_end (heard.Broken cause) = false

-- ---- visits

-- A connection that was served: its request as a turn, and what the listener tells of it since it
-- was handed back. In lists of visits the last one stands first.
pub record Visit (D : Type 0) : Type 0 where
  pub turn : Turn D
  pub back : Handed

abbrev pub turns_of : {D : Type 0} → List (Visit D) → List (Turn D)
turns_of [] = []
turns_of (visit ∷ earlier) = visit.turn ∷ turns_of earlier

-- what was handed back, the first connection first
abbrev pub backs_of : {D : Type 0} → List (Visit D) → List Handed
backs_of [] = []
backs_of (visit ∷ earlier) = backs_of earlier ++ visit.back ∷ []

-- what the connections held, the first one first
abbrev pub held_by : {D : Type 0} → List (Visit D) → List (Option (List ℕ))
held_by [] = []
held_by (visit ∷ earlier) = held_by earlier ++ visit.back.held ∷ []

-- On a connection that tells its bytes stands the reply, where its own count did not rise; else a
-- front of it.
pub record IsReplied (back : Handed) (reply : Option Reply) : Type 0 where
  pub whole : back.rose ≡ false → IfSome back.written (λ bytes. bytes ≡ reply_text reply)
  pub front : IfSome back.written (λ bytes. IsFrontOf bytes (reply_text reply))

-- A visit behind others. Its request is the one that is read of what the connection held, and a
-- fault of the link comes only where its count rose.
pub record IsVisit {D : Type 0} (d : Ghosts D) (fits : NamedItems →
    Type 0) (s : Start D) (earlier : List (Visit D)) (visit : Visit D) (ahead ahead' : Option Moments) : Type 0 where
  pub left : Option (List ℕ)
  pub turn : IsTurn d fits s (turns_of earlier) visit.turn (coming visit.back.held ahead) (coming left ahead')
  pub replied : IsReplied visit.back visit.turn.answer.reply
  pub by_link : visit.turn.result ≡ Err fault.Link → visit.back.rose ≡ true

abbrev pub AreVisits : {D : Type 0} → Ghosts D → (NamedItems → Type 0) → Start D → List (Visit D) → Option Moments → Option Moments → Type 0
AreVisits d fits s [] ahead ahead' = ahead' ≡ ahead
AreVisits d fits s (visit ∷ earlier) ahead ahead' = (shown : Option Moments) × AreVisits d fits s earlier ahead shown
    × IsVisit d fits s earlier visit shown ahead'

-- behind none of them the run ended
abbrev pub HaveGoneOn : {D : Type 0} → List (Visit D) → Type 0
HaveGoneOn [] = Unit {0}
HaveGoneOn (visit ∷ earlier) = (break_of visit.turn.result ≡ None) × HaveGoneOn earlier

-- how a run of so many connections ends: behind all of them, before the next one where the listener
-- failed, or behind the last where the disk did
abbrev pub EndsAt : {D : Type 0} → ℕ → Heard → List (Visit D) → Type 0
EndsAt requests heard.Done visits = (length visits ≡ requests) × HaveGoneOn visits
EndsAt requests heard.Listener visits = (length visits < requests) × HaveGoneOn visits
EndsAt requests (heard.Broken cause) [] = ⊥
EndsAt requests (heard.Broken cause) (visit ∷ earlier) = (length earlier < requests) × (break_of visit.turn.result ≡ Some cause)
    × HaveGoneOn earlier

-- the end of a run with a commit behind its visits: that of the visits, or the fault of the commit
abbrev pub EndsIn : {D : Type 0} → ℕ → Heard → List (Visit D) → Type 0
EndsIn requests end visits =
    EndsAt requests end visits ⊎ ((cause : CommitFault) × (end ≡ heard.Broken cause) × (first : Heard) × (is_open_end first ≡ true)
    × EndsAt requests first visits)

-- Damage that ends a run is named as the disk reads, whatever it holds, and as the store shows its
-- buckets then.
abbrev pub IsPlacedEnd : {D : Type 0} → Ghosts D → View → D → Heard → Type 0
IsPlacedEnd d shown disk end = (file : File) (at : ℕ) → end ≡ heard.Broken (commits.Damaged file at) → ReadsBad d shown disk file at

-- No run over a disk that tells what it reads ends by damage.
abbrev pub IsUndamagedEnd : {D : Type 0} → Ghosts D → D → Heard → Type 0
IsUndamagedEnd d disk end = (file : File) (at : ℕ) → end ≡ heard.Broken (commits.Damaged file at) → (image : Image) →
    d.seen disk ≡ Some image → ⊥

-- ---- the listener

-- these connections waited first, and were taken
abbrev pub Taken : List (Option (List ℕ)) → List (Option (List ℕ)) → List (Option (List ℕ)) → Type 0
Taken held old new = old ≡ held ++ new

-- these connections were handed back behind the others
abbrev pub HandedBack : List Handed → List Handed → List Handed → Type 0
HandedBack backs old new = new ≡ old ++ backs

-- What the listener tells: what each connection that waits holds, and those that were handed back.
pub record Listened : Type 0 where
  pub waiting : Option (List (Option (List ℕ)))
  pub handed : Option (List Handed)

abbrev pub listened : Option (List (Option (List ℕ))) → Option (List Handed) → Listened
listened waiting handed = record { waiting = waiting; handed = handed }

-- that, and what the clock is to tell
pub record Hearing : Type 0 where
  pub heard : Listened
  pub ahead : Option Moments

abbrev pub hearing : Listened → Option Moments → Hearing
hearing heard ahead = record { heard = heard; ahead = ahead }

-- the connections of these visits were taken, and handed back
pub record HasHeard {D : Type 0} (visits : List (Visit D)) (from to : Listened) : Type 0 where
  pub waits : Told (Taken (held_by visits)) from.waiting to.waiting
  pub backs : Told (HandedBack (backs_of visits)) from.handed to.handed

-- ---- one visit

-- One connection: it was the first that waited, its request was served, and it was handed back.
pub record Attends {D : Type 0} (d : Ghosts D) {M : Type 0} (kind : Kind M) (s : Start D) (came : Result Served ServeFault)
    (from to : Hearing) (store : Store M) (new : D) : Type 0 where
  pub read : Found
  pub answer : Answer
  pub left : Option (List ℕ)
  pub back : Handed
  pub moment : ℤ
  pub took : Told (Fits read) back.held left
  pub shown : Told (Answered moment) from.ahead to.ahead
  pub says : Says (first_entry s moment) (IsTold d new) read came answer
  pub reply_came : Came answer.reply (is_whole read) came
  pub replied : IsReplied back answer.reply
  pub by_link : came ≡ Err fault.Link → back.rose ≡ true
  pub waits : Told (TakesFirst back.held) from.heard.waiting to.heard.waiting
  pub backs : Told (Adds back) from.heard.handed to.heard.handed
  pub taken : AllByRecursion kind.takes (s.history ++ answer.more)
  pub held : IsOpen came → HoldsFrom d kind.fits kind.holds (first_entry s moment) answer.commits (s.history ++ answer.more) store new
  pub images : Always d s.disk new (StandsIn kind.fits s.run s.choose (s.history ++ answer.more) s.kept)
  pub undamaged : IsUndamaged d new came

-- ---- the whole

-- Since the start these visits were made, behind none of which the run ended.
pub record Visits {D : Type 0} (d : Ghosts D) {M : Type 0} (kind : Kind M) (s : Start D) (count : ℕ)
    (from to : Hearing) (store : Store M) (new : D) : Type 0 where
  pub visits : List (Visit D)
  pub are : AreVisits d kind.fits s visits from.ahead to.ahead
  pub made : length visits ≡ count
  pub on : HaveGoneOn visits
  pub heard : HasHeard visits from.heard to.heard
  pub taken : AllByRecursion kind.takes (history_after s (turns_of visits))
  pub at : disk_after s (turns_of visits) ≡ new
  pub kept : ℕ
  pub knows : known s (turns_of visits) ≤ kept
  pub hold : Represents d kind.fits kind.holds s.choose (history_after s (turns_of visits)) s.base kept store new
  pub told : IsTold d s.disk → IsTold d new × AreTold d (turns_of visits)

-- Visits to the end of a run.
pub record Hears {D : Type 0} (d : Ghosts D) {M : Type 0} (kind : Kind M) (s : Start D) (requests : ℕ) (end : Heard)
    (from to : Hearing) (store : Store M) (new : D) : Type 0 where
  pub visits : List (Visit D)
  pub are : AreVisits d kind.fits s visits from.ahead to.ahead
  pub ends : EndsAt requests end visits
  pub heard : HasHeard visits from.heard to.heard
  pub taken : AllByRecursion kind.takes (history_after s (turns_of visits))
  pub told : IsTold d s.disk → AreTold d (turns_of visits)
  pub held : is_open_end end ≡ true → (kept : ℕ) × (known s (turns_of visits) ≤ kept)
      × Represents d kind.fits kind.holds s.choose (history_after s (turns_of visits)) s.base kept store new
  pub behind : Always d (disk_after s (turns_of visits)) new (Has kind.fits s (turns_of visits) (known s (turns_of visits)))
  pub undamaged : IsUndamagedEnd d new end

-- A run with the commit at its end. The listener tells of each connection what it held and what was
-- written on it. Behind the visits each image has all that is known as committed then: so it has
-- each command that a reply tells as stored.
pub record Listens {D : Type 0} (d : Ghosts D) {M : Type 0} (kind : Kind M) (s : Start D) (requests : ℕ) (end : Heard)
    (from to : Hearing) (store : Store M) (new : D) : Type 0 where
  pub visits : List (Visit D)
  pub are : AreVisits d kind.fits s visits from.ahead to.ahead
  pub ends : EndsIn requests end visits
  pub heard : HasHeard visits from.heard to.heard
  pub taken : AllByRecursion kind.takes (history_after s (turns_of visits))
  pub told : IsTold d s.disk → AreTold d (turns_of visits)
  pub behind : Always d (disk_after s (turns_of visits)) new (Has kind.fits s (turns_of visits) (known s (turns_of visits)))
  pub undamaged : IsUndamagedEnd d new end
  -- all that was accepted is committed, and in every image, unless the disk is at fault
  pub held : is_open_end end ≡ true → Represents d kind.fits kind.holds s.choose (history_after s (turns_of visits)) s.base
      (length (history_after s (turns_of visits))) store new
  pub all : is_open_end end ≡ true → (image : Image) → d.may_leave new image →
      RecoversTo kind.fits s.run s.choose (history_after s (turns_of visits)) image

-- the counts of faults never fall, and these ends come only where theirs rose
pub record Comes (listener listener' disk disk' : ℕ) (end : Heard) : Type 0 where
  pub listener_later : listener ≤ listener'
  pub disk_later : disk ≤ disk'
  pub by_listener : end ≡ heard.Listener → Rose listener listener'
  pub by_disk : end ≡ heard.Broken commits.Disk → Rose disk disk'
