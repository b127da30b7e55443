-- What a log has led to, and what stands in the way of more.
use Rattle.std.specs.Prelude.{◌≡◌, ◌⊎◌, ◌<◌, ◌^◌, ◌==◌, if◌then◌else◌, ℕ, [], ◌∷◌, ◌++◌, length, List, Result, Err}
use Rattle.ix_items.specs.declared.items.Item.{Item}
use Rattle.ix_disk.specs.declared.disk.Disk.{Ghosts}
use Rattle.ix_log.specs.Log.{IsAtEnd, IsReading, IsCut, AreShort, HasBodies, blocks}
use Rattle.ix_log.specs.declared.log.Log.{Log}
use Rattle.ix_log.specs.declared.log.LogFault.{LogFault}
use Rattle.ix_log.specs.declared.log.LogFault.TheVariants as logs
use Rattle.ix_manifest.specs.declared.manifest_state.ReplayFault.{ReplayFault}
use Rattle.ix_manifest.specs.declared.manifest_state.ReplayFault.TheVariants as faults
use Rattle.ix_manifest.specs.Book.{NamedItems, AreItems, IsBody, replay, Replays}

-- the bytes are items that lead from the one book to the other
pub record HasApplied (bytes : List ℕ) (from to : NamedItems) : Type 0 where
  pub items : List Item
  pub are : AreItems items bytes
  pub replayed : to ≡ replay items from

-- how many bytes the first body has, 0 where there is none
abbrev pub first_length : List (List ℕ) → ℕ
first_length [] = 0
first_length (body ∷ bodies) = length body

-- the same once a further body is read
abbrev pub first_after : ℕ → ℕ → ℕ → ℕ
first_after count first len = if count == 0 then len else first

-- The log has read so many bodies, the first of so many bytes, which lead from the one book to the
-- other.
pub record IsReplaying {D : Type 0} (g : Ghosts D) (fits : NamedItems →
    Type 0) (log : Log) (disk : D) (from to : NamedItems) (first count : ℕ) : Type 0 where
  pub bodies : List (List ℕ)
  pub reading : IsReading g log disk bodies
  pub replayed : Replays fits bodies from to
  pub counted : count ≡ length bodies
  pub measured : first ≡ first_length bodies

-- the log stands behind bodies, the first of so many bytes, which lead from the one book to the
-- other
pub record IsReplayed {D : Type 0} (g : Ghosts D) (fits : NamedItems →
    Type 0) (log : Log) (disk : D) (from to : NamedItems) (first : ℕ) : Type 0 where
  pub bodies : List (List ℕ)
  pub end : IsAtEnd g log disk bodies
  pub replayed : Replays fits bodies from to
  pub measured : first ≡ first_length bodies

abbrev pub IsDamaged : {T : Type 0} → Result T ReplayFault → ℕ → Type 0
IsDamaged result at = result ≡ Err (faults.Damaged at)

-- Behind these bodies stands a further one whole, which is no list of items that leads to a book
-- that fits.
pub record HasBadBody (fits : NamedItems → Type 0) (bodies : List (List ℕ)) (mid : NamedItems) (file : List ℕ) : Type 0 where
  pub body : List ℕ
  pub rest : List ℕ
  pub spelled : file ≡ blocks (bodies ++ body ∷ []) ++ rest
  pub short : length body < 2 ^ 32
  pub refused : (items : List Item) → IsBody items body → fits (replay items mid) → ⊥

-- The bodies before this gate replay, and what stands at it does not: it is cut, or is no body, or
-- leads to a book that does not fit.
pub record IsBadGate (fits : NamedItems → Type 0) (from : NamedItems) (at : ℕ) (file : List ℕ) : Type 0 where
  pub bodies : List (List ℕ)
  pub mid : NamedItems
  pub place : at ≡ length (blocks bodies)
  pub fit : AreShort bodies
  pub replayed : Replays fits bodies from mid
  pub bad : IsCut bodies file ⊎ HasBadBody fits bodies mid file

-- a file with such a gate has no list of bodies that replays
abbrev pub BadGateReplaysNothing : (NamedItems → Type 0) → Type 0
BadGateReplaysNothing fits = (from : NamedItems) (at : ℕ) (file : List ℕ) → IsBadGate fits from at file →
    (all : List (List ℕ)) (to : NamedItems) → HasBodies all file → Replays fits all from to → ⊥

abbrev pub as_replay : LogFault → ReplayFault
as_replay logs.Disk = faults.Disk
as_replay (logs.Damaged at) = faults.Damaged at
as_replay logs.NoMemory = faults.NoMemory
