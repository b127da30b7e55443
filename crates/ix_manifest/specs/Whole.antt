-- What a checkpoint writes.
use Rattle.std.specs.Prelude.{◌≡◌, ◌⊎◌, ◌+◌, ℕ, List, [], ◌∷◌, ◌++◌, Option, Some, None}
use Rattle.ix_base.specs.declared.files.File.{File}
use Rattle.ix_items.specs.Spelling.{HasSpelling, body_bytes}
use Rattle.ix_items.specs.declared.items.Item.{Item}
use Rattle.ix_items.specs.declared.items.Item.TheVariants as items
use Rattle.ix_disk.specs.declared.disk.Disk.{Ghosts}
use Rattle.ix_log.specs.Log.{HasBodies, IsReady}
use Rattle.ix_log.specs.declared.log.Log.{Log}
use Rattle.ix_log.specs.declared.log.BeginFault.{BeginFault}
use Rattle.ix_log.specs.declared.log.BeginFault.TheVariants as begins
use Rattle.ix_manifest.specs.Root.{roots}
use Rattle.ix_manifest.specs.declared.fault.CheckpointFault.{CheckpointFault}
use Rattle.ix_manifest.specs.declared.fault.CheckpointFault.TheVariants as faults

-- the next of the items that were still to come, or that there was none
abbrev pub HasTold : Option Item → List Item → List Item → Type 0
HasTold None old new = (old ≡ []) × (new ≡ [])
HasTold (Some item) old new = HasSpelling item × (old ≡ item ∷ new)

-- bytes more were put, and with the items that are left they are the items that were left before
pub record HasPut {D : Type 0} (g : Ghosts D) (log : Log) (disk : D) (body : List ℕ) (old new : List Item) : Type 0 where
  pub done : List ℕ
  pub ready : IsReady g log disk [] (body ++ done)
  pub all : done ++ body_bytes new ≡ body_bytes old

-- a file is done with
abbrev pub removal : File → Item
removal file = items.Removals (file ∷ [])

-- the items of a state, and behind them that a file is done with
abbrev pub whole : List Item → File → List Item
whole told done = told ++ removal done ∷ []

-- the body that they make
abbrev pub whole_body : List Item → File → List ℕ
whole_body told done = body_bytes (whole told done)

-- the root log after so many checkpoints, or after one more
abbrev pub HasNumbers : ℕ → List ℕ → Type 0
HasNumbers checkpoints file = HasBodies (roots checkpoints) file ⊎ HasBodies (roots (checkpoints + 1)) file

abbrev pub as_checkpoint : BeginFault → CheckpointFault
as_checkpoint begins.Disk = faults.Disk
as_checkpoint begins.NoMemory = faults.NoMemory
