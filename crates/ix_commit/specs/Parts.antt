-- The staged bytes of buckets.
use Rattle.std.specs.Prelude.{◌≡◌, ◌≢◌, ◌⊎◌, ℕ, List, [], ◌∷◌, length, ◌++◌, map, All, Contains}
use Rattle.std.specs.List.{AllByRecursion}
use Rattle.ix_base.specs.declared.files.Area.TheVariants.{Home}
use Rattle.ix_base.specs.declared.files.File.{File}
use Rattle.ix_commit.specs.Contents.{Filling}
use Rattle.ix_commit.specs.declared.staged_append.StagedAppend.{StagedAppend}

-- a file of the buckets that take events
abbrev pub home : ℕ → File
home n = record { area = Home; number = n }

abbrev pub file_in : StagedAppend → File
file_in part = home part.number

-- the bytes that are staged for a file, behind what is committed there
pub record IsPart (old new : Filling) (part : StagedAppend) : Type 0 where
  pub committed : part.committed ≡ length (old (file_in part))
  pub staged : new (file_in part) ≡ old (file_in part) ++ part.staged

abbrev pub files_of : List StagedAppend → List File
files_of parts = map file_in parts

-- no file stands twice
abbrev pub AreApart : List File → Type 0
AreApart [] = Unit {0}
AreApart (file ∷ files) = AllByRecursion (λ other. other ≢ file) files × AreApart files

-- the staged bytes lead from the old bytes to the new ones
pub record AreParts (old new : Filling) (parts : List StagedAppend) : Type 0 where
  pub each : All (IsPart old new) parts
  pub others : (file : File) → (new file ≡ old file) ⊎ Contains (files_of parts) file
  pub distinct : AreApart (files_of parts)

abbrev pub more_staged : StagedAppend → List ℕ → StagedAppend
more_staged part bytes = record { number = part.number; committed = part.committed; staged = part.staged ++ bytes }
