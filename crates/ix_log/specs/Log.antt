-- The gated log: bodies behind open gates, and a gate that is shut.
use Rattle.std.specs.Prelude.{◌≡◌, ◌≢◌, ◌⊎◌, ◌<◌, ◌≤◌, ◌+◌, ◌^◌, if◌then◌else◌, ℕ, List, [], ◌∷◌, ◌++◌, length, Bool, true, false, Some}
use Rattle.std.specs.List.{AllByRecursion}
use Rattle.std.specs.Int.{to_be_bytes, w32}
use Rattle.ix_base.specs.declared.files.File.{File}
use Rattle.ix_disk.specs.Image.{Image, bytes_in}
use Rattle.ix_disk.specs.Moments.{Holds, Reads}
use Rattle.ix_disk.specs.declared.disk.Disk.{Ghosts}
use Rattle.ix_log.specs.declared.log.Log.{Log}
use Rattle.ix_log.specs.Window.{IsWindowOn}

-- the log's file
abbrev pub file_of : Log → File
file_of log = log.file

-- the place of the gate behind the bodies that were read or written
abbrev pub place_of : Log → ℕ
place_of log = log.at

-- how many bytes of the next body were put
abbrev pub put_so_far : Log → ℕ
put_so_far log = log.len

-- where the file ends, if nothing stands behind what was put: behind a gate, or behind the bytes of
-- the next body
abbrev pub end_of : Log → ℕ
end_of log = if log.begun then log.at + 5 + log.len else log.at + 1

-- an open gate, the body's length in four bytes, and the body
abbrev pub block : List ℕ → List ℕ
block body = 1 ∷ to_be_bytes w32 (length body) ++ body

abbrev pub blocks : List (List ℕ) → List ℕ
blocks [] = []
blocks (body ∷ bodies) = block body ++ blocks bodies

-- the length of each has four bytes
abbrev pub AreShort : List (List ℕ) → Type 0
AreShort bodies = AllByRecursion (λ body. length body < 2 ^ 32) bodies

-- the file is the blocks of these bodies, and then a gate that is not open, whatever stands behind
-- it
pub record Gated (bodies : List (List ℕ)) (file : List ℕ) : Type 0 where
  pub gate : ℕ
  pub rest : List ℕ
  pub spelled : file ≡ blocks bodies ++ gate ∷ rest
  pub shut : gate ≢ 1
  pub fit : AreShort bodies

-- a file of at most one byte has no body
abbrev pub HasBodies : List (List ℕ) → List ℕ → Type 0
HasBodies bodies file = Gated bodies file ⊎ ((bodies ≡ []) × (length file ≤ 1))

-- with a body behind the shut gate, under any four bytes
pub record Staged (bodies : List (List ℕ)) (body file : List ℕ) : Type 0 where
  pub gate : ℕ
  pub four : List ℕ
  pub rest : List ℕ
  pub spelled : file ≡ blocks bodies ++ gate ∷ four ++ body ++ rest
  pub shut : gate ≢ 1
  pub size : length four ≡ 4
  pub fit : AreShort bodies

-- with a whole block behind it but for the gate, which is shut, and a shut gate behind that
pub record Whole (bodies : List (List ℕ)) (body file : List ℕ) : Type 0 where
  pub gate : ℕ
  pub rest : List ℕ
  pub spelled : file ≡ blocks bodies ++ gate ∷ to_be_bytes w32 (length body) ++ body ++ 0 ∷ rest
  pub shut : gate ≢ 1
  pub fit : AreShort bodies
  pub body_fits : length body < 2 ^ 32

-- a shut gate stands behind the bodies, or there is no room for a body yet
abbrev pub AtEnd : Bool → List (List ℕ) → List ℕ → Type 0
AtEnd true bodies file = Gated bodies file
AtEnd false bodies file = (bodies ≡ []) × (length file ≤ 1)

-- as a read gives it, the log's file has so many bytes
abbrev pub EndsAt : {D : Type 0} → Ghosts D → Log → D → ℕ → Type 0
EndsAt g log disk end = Reads g disk log.file (λ bytes. length bytes ≡ end)

-- nothing stands behind what was put
abbrev pub HasNoMore : {D : Type 0} → Ghosts D → Log → D → Type 0
HasNoMore g log disk = EndsAt g log disk (end_of log)

-- the log stands behind the last of these bodies, in every image
pub record IsAtEnd {D : Type 0} (g : Ghosts D) (log : Log) (disk : D) (bodies : List (List ℕ)) : Type 0 where
  pub place : place_of log ≡ length (blocks bodies)
  pub idle : log.begun ≡ false
  pub none_put : put_so_far log ≡ 0
  pub images : Holds g disk log.file (AtEnd log.closed bodies)

-- bytes of a further body have been put
pub record IsPutting {D : Type 0} (g : Ghosts D) (log : Log) (disk : D) (bodies : List (List ℕ)) (body : List ℕ) : Type 0 where
  pub place : place_of log ≡ length (blocks bodies)
  pub begun : log.begun ≡ true
  pub closed : log.closed ≡ true
  pub len : log.len ≡ length body
  pub images : Holds g disk log.file (Gated bodies)
  pub seen : (image : Image) → g.seen disk ≡ Some image → Staged bodies body (bytes_in image log.file)

-- the whole block is on the disk, and its gate is shut
pub record IsWhole {D : Type 0} (g : Ghosts D) (log : Log) (disk : D) (bodies : List (List ℕ)) (body : List ℕ) : Type 0 where
  pub place : place_of log ≡ length (blocks bodies)
  pub len : log.len ≡ length body
  pub images : Holds g disk log.file (Whole bodies body)

-- a body is put from its first byte on, or goes on
abbrev pub IsReady : {D : Type 0} → Ghosts D → Log → D → List (List ℕ) → List ℕ → Type 0
IsReady g log disk bodies body = (IsAtEnd g log disk bodies × (body ≡ [])) ⊎ IsPutting g log disk bodies body

-- the bodies, with one more or without it
abbrev pub WithOrWithout : List (List ℕ) → List ℕ → List ℕ → Type 0
WithOrWithout bodies body file = HasBodies bodies file ⊎ Gated (bodies ++ body ∷ []) file

-- The file begins with the blocks of these bodies, and goes on where it has more than one byte.
pub record ReadOn (bodies : List (List ℕ)) (size : ℕ) (file : List ℕ) : Type 0 where
  pub rest : List ℕ
  pub spelled : file ≡ blocks bodies ++ rest
  pub measured : size ≡ length file
  pub goes_on : 1 < length file → 0 < length rest
  pub short : length file ≤ 1 → bodies ≡ []
  pub fit : AreShort bodies

-- each image has the file as a read gives it
abbrev pub IsAsRead : {D : Type 0} → Ghosts D → D → File → Type 0
IsAsRead g disk file = (image : Image) → g.may_leave disk image → (read : Image) × (g.seen disk ≡ Some read) × (image file ≡ read file)

-- the log has read these bodies
pub record IsReading {D : Type 0} (g : Ghosts D) (log : Log) (disk : D) (bodies : List (List ℕ)) : Type 0 where
  pub place : place_of log ≡ length (blocks bodies)
  pub idle : log.begun ≡ false
  pub none_put : put_so_far log ≡ 0
  pub fresh : log.closed ≡ false
  pub settled : IsAsRead g disk log.file
  pub reads : Reads g disk log.file (ReadOn bodies log.size)
  pub ahead : Reads g disk log.file (IsWindowOn log.window)

-- the first where it is true, else the second
abbrev pub OnMore : Bool → Type 0 → Type 0 → Type 0
OnMore true p q = p
OnMore false p q = q

-- the log has read some bodies
pub record IsMounted {D : Type 0} (g : Ghosts D) (log : Log) (disk : D) : Type 0 where
  pub bodies : List (List ℕ)
  pub reading : IsReading g log disk bodies

-- bytes of a further body can be put
pub record IsUsable {D : Type 0} (g : Ghosts D) (log : Log) (disk : D) : Type 0 where
  pub bodies : List (List ℕ)
  pub body : List ℕ
  pub ready : IsReady g log disk bodies body

-- bytes of a further body have been put
pub record IsBegun {D : Type 0} (g : Ghosts D) (log : Log) (disk : D) : Type 0 where
  pub bodies : List (List ℕ)
  pub body : List ℕ
  pub putting : IsPutting g log disk bodies body

-- An open gate stands behind these bodies, and no further body stands there whole, with at least
-- one byte behind it.
pub record IsCut (bodies : List (List ℕ)) (file : List ℕ) : Type 0 where
  pub tail : List ℕ
  pub spelled : file ≡ blocks bodies ++ 1 ∷ tail
  pub long : 1 < length file
  pub short : (body : List ℕ) (gate : ℕ) (rest : List ℕ) → length body < 2 ^ 32 → file ≢ blocks (bodies ++ body ∷ []) ++ gate ∷ rest

-- A file has one list of bodies at the most.
abbrev pub HaveOneList : Type 0
HaveOneList = (a b : List (List ℕ)) (file : List ℕ) → HasBodies a file → HasBodies b file → a ≡ b

-- Where a log stands at the end of some bodies, these are the bodies of the file.
abbrev pub EndHasBodies : Type 0
EndHasBodies = (closed : Bool) (bodies : List (List ℕ)) (file : List ℕ) → AtEnd closed bodies file → HasBodies bodies file
