-- What the files of a store begin with.
use Rattle.std.specs.Prelude.{◌≡◌, ◌≢◌, ℕ, List, [], ◌++◌, length, take, Option, if◌then◌else◌}
use Rattle.ix_base.specs.declared.files.File.{File}
use Rattle.ix_disk.specs.Image.{Image, bytes_in, content}
use Rattle.ix_disk.specs.Files.{is_same}
use Rattle.ix_disk.specs.declared.disk.Disk.{Ghosts}
use Rattle.ix_manifest.specs.Root.{log_file}

-- The bytes that each file is to begin with: none yet in a file that is still to come. A file that
-- is done with has no entry: that of a bucket that moved or is gone, and those of the logs.
abbrev pub Contents : Type 0
Contents = File → Option (List ℕ)

-- bytes for each file
abbrev pub Filling : Type 0
Filling = File → List ℕ

abbrev pub filling : Contents → Filling
filling contents file = content (contents file)

-- these bytes stand at the front
abbrev pub BeginsWith : List ℕ → List ℕ → Type 0
BeginsWith bytes file = take (length bytes) file ≡ bytes

-- each file begins with its bytes
pub record HasFilling (bytes : Filling) (image : Image) : Type 0 where
  pub begins : (file : File) → BeginsWith (bytes file) (bytes_in image file)

-- each image that a crash now may leave has these bytes
abbrev pub HoldsFilling : {D : Type 0} → Ghosts D → D → Filling → Type 0
HoldsFilling g disk bytes = (image : Image) → g.may_leave disk image → HasFilling bytes image

-- the root log and the current one are as they were, and the bytes are where they were
pub record Spares (current : File) (bytes : Filling) (old new : Image) : Type 0 where
  pub root_stays : new (log_file 0) ≡ old (log_file 0)
  pub log_stays : new current ≡ old current
  pub keeps : HasFilling bytes old → HasFilling bytes new

-- a file is as it was
abbrev pub Keeping : File → Image → Image → Type 0
Keeping file old new = new file ≡ old file

-- the logs that count are as they were
pub record KeepsLogs (current : File) (old new : Image) : Type 0 where
  pub root_stays : new (log_file 0) ≡ old (log_file 0)
  pub log_stays : new current ≡ old current

-- whatever happens: each image comes from one before
abbrev pub Anyhow : Image → Image → Type 0
Anyhow old new = Unit {0}

-- a file that may go: no bucket has bytes there, and it is neither the root log nor the current one
pub record IsFree (current : File) (contents : Contents) (file : File) : Type 0 where
  pub not_root : file ≢ log_file 0
  pub not_current : file ≢ current
  pub none : filling contents file ≡ []

-- these bytes in one file, in place of what it had
abbrev pub put_in : File → List ℕ → Filling → Filling
put_in file bytes old other = if is_same other file then bytes else old other

-- more bytes in one file
abbrev pub more_in : File → List ℕ → Filling → Filling
more_in file bytes old other = if is_same other file then old other ++ bytes else old other
