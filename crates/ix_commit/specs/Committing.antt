-- What stands in the way of a commit.
use Rattle.std.specs.Prelude.{◌≡◌, ◌⊎◌, ◌<◌, ℕ, List, Contains}
use Rattle.ix_base.specs.declared.files.File.{File}
use Rattle.ix_commit.specs.Parts.{file_in}
use Rattle.ix_commit.specs.declared.file_copy.FileCopy.{FileCopy}
use Rattle.ix_commit.specs.declared.staged_append.StagedAppend.{StagedAppend}

-- so many bytes are fewer than are committed in a bucket's file, or than there are to be copied
-- from one
abbrev pub IsShort : List StagedAppend → List FileCopy → File → ℕ → Type 0
IsShort parts copies file at =
    ((part : StagedAppend) × Contains parts part × (file ≡ file_in part) × (at < part.committed))
    ⊎ ((copied : FileCopy) × Contains copies copied × (file ≡ copied.from) × (at < copied.len))
