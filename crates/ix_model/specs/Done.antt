-- Files that are done with.
use Rattle.std.specs.Prelude.{◌≡◌, ◌≢◌, ◌<◌, ◌++◌, ℕ, Bool, true, false, List, Contains, None, is_some}
use Rattle.ix_base.specs.declared.files.Area.TheVariants.{Meta}
use Rattle.ix_base.specs.declared.files.File.{File}
use Rattle.ix_model.specs.Files.{uses}
use Rattle.ix_model.specs.Given.{Chooser}
use Rattle.ix_model.specs.State.{Catalog}
use Rattle.ix_model.specs.Step.{state_after}
use Rattle.ix_model.specs.declared.commands.TimedCommand.{TimedCommand}
use Rattle.ix_model.specs.Contents.{bytes_of, contents_of, filed}

-- A file that had a bucket, and is done with: it is that of no log, and its number is neither a
-- bucket's or an archive's nor still to come.
pub record IsDone (s : Catalog) (file : File) : Type 0 where
  pub apart : file.area ≢ Meta
  pub taken : file.number < s.next_file
  pub unused : uses file.number s ≡ 0

-- whether the file is that of a bucket or of an archive
abbrev pub is_filed : Catalog → File → Bool
is_filed s file = is_some (bytes_of (filed s) file)

-- each file that is that of one in the first, and of none in the second, is among these
abbrev pub AreLetGo : Catalog → Catalog → List File → Type 0
AreLetGo old new files = (file : File) → is_filed old file ≡ true → is_filed new file ≡ false → Contains files file

-- it begins with nothing
abbrev pub DoneHasNone : Type 0
DoneHasNone = (s : Catalog) (file : File) → IsDone s file → contents_of s file ≡ None

-- and it is done with for good
abbrev pub DoneStays : Type 0
DoneStays = (choose : Chooser) (before later : List TimedCommand) (file : File) →
    IsDone (state_after choose before).catalog file → IsDone (state_after choose (before ++ later)).catalog file
