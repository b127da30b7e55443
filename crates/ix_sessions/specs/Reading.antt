-- What a run reads of links, and where it ends by that, whatever the disk holds.
use Rattle.std.specs.Prelude.{◌≡◌, ◌+◌, ◌<◌, ◌≤◌, ◌⊎◌, ℕ, List, [], ◌∷◌, length, if◌then◌else◌, Option, Some, None, Ok, Err}
use Rattle.ix_base.specs.Told.{Told}
use Rattle.ix_heads.specs.declared.faults.LinkFault.TheVariants as link
use Rattle.ix_http.specs.Asked.{Fits}
use Rattle.ix_http.specs.declared.kinds.Incoming.TheVariants as was
use Rattle.ix_net.specs.Listeners.{Handed, TakesFirst, Adds}
use Rattle.ix_serve.specs.Answer.{Found}
use Rattle.ix_sessions.specs.Connections.{Listened}
use Rattle.ix_sessions.specs.Feeding.{most_requests}
use Rattle.ix_sessions.specs.declared.feed.Fed.{Fed}
use Rattle.ix_sessions.specs.declared.feed.Fed.TheVariants as fed
use Rattle.ix_sessions.specs.declared.serve.Heard.{Heard}
use Rattle.ix_sessions.specs.declared.serve.Heard.TheVariants as heard

-- ---- requests of one link

-- The end of a run behind a request, by what was read of it: at the end of the link, where the
-- request is cut, and where it is not known where a request ends that is refused or finds no room
-- in memory. Behind any other the run goes on.
abbrev pub end_by : ℕ → Found → Option Fed
end_by request (Ok was.Ended) = Some fed.Ended
end_by request (Ok (was.Asked ask)) = None
end_by request (Ok (was.Refused why delimited)) = if delimited then None else Some (fed.Unreadable request)
end_by request (Err link.Failed) = Some fed.Link
end_by request (Err link.Cut) = Some (fed.Unreadable request)
end_by request (Err (link.NoMemory whole)) = if whole then None else Some fed.NoMemory

-- the link or the disk has failed, or there was no room in memory: such an end may come behind any
-- request
abbrev pub IsFailure : Fed → Type 0
IsFailure fed.Ended = ⊥
IsFailure (fed.Unreadable request) = ⊥
IsFailure fed.NoMemory = Unit {0}
IsFailure fed.Endless = ⊥
IsFailure fed.Link = Unit {0}
IsFailure (fed.Broken cause) = Unit {0}

-- Requests were read one behind the other of what the link had left. In lists of them the last one
-- stands first.
abbrev pub AreRead : List Found → Option (List ℕ) → Option (List ℕ) → Type 0
AreRead [] left left' = left' ≡ left
AreRead (read ∷ earlier) left left' = (mid : Option (List ℕ)) × AreRead earlier left mid × Told (Fits read) mid left'

-- the run goes on behind each of them
abbrev pub AreWhole : List Found → Type 0
AreWhole [] = Unit {0}
AreWhole (read ∷ earlier) = (end_by (length earlier + 1) read ≡ None) × AreWhole earlier

-- It ends behind the last: as what was read of that says, or by a failure.
abbrev pub EndsBehind : Fed → List Found → Type 0
EndsBehind end [] = ⊥
EndsBehind end (last ∷ earlier) = ((end_by (length earlier + 1) last ≡ Some end) ⊎ IsFailure end) × AreWhole earlier

-- so many requests were read, and the run goes on
pub record ReadsOn (count : ℕ) (left left' : Option (List ℕ)) : Type 0 where
  pub reads : List Found
  pub are : AreRead reads left left'
  pub made : length reads ≡ count
  pub whole : AreWhole reads

-- Requests were read up to the end of a run: behind the last of them, or behind as many as are
-- served at the most.
pub record ReadsTo (end : Fed) (left left' : Option (List ℕ)) : Type 0 where
  pub reads : List Found
  pub are : AreRead reads left left'
  pub ends : EndsBehind end reads ⊎ ((end ≡ fed.Endless) × (length reads ≡ most_requests) × AreWhole reads)

-- ---- a request of a connection each

-- The connection was the first that waited, the request was read of what it held, and it was handed
-- back.
pub record IsHeard (read : Found) (from to : Listened) : Type 0 where
  pub left : Option (List ℕ)
  pub back : Handed
  pub took : Told (Fits read) back.held left
  pub waits : Told (TakesFirst back.held) from.waiting to.waiting
  pub backs : Told (Adds back) from.handed to.handed

-- one behind the other, the last one first
abbrev pub AreHeard : List Found → Listened → Listened → Type 0
AreHeard [] from to = to ≡ from
AreHeard (read ∷ earlier) from to = (mid : Listened) × AreHeard earlier from mid × IsHeard read mid to

-- connections were heard, as many as this says
pub record HearsMany (many : ℕ → Type 0) (from to : Listened) : Type 0 where
  pub reads : List Found
  pub are : AreHeard reads from to
  pub made : many (length reads)

-- how many were heard of so many by the end of a run: all, fewer where the listener failed, and at
-- the most all where the disk did
abbrev pub AsMany : ℕ → Heard → ℕ → Type 0
AsMany requests heard.Done count = count ≡ requests
AsMany requests heard.Listener count = count < requests
AsMany requests (heard.Broken cause) count = count ≤ requests
