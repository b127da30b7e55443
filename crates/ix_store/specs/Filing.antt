-- Files that are to be removed.
use Rattle.std.specs.Prelude.{List}
use Rattle.std.specs.List.{AllByRecursion}
use Rattle.ix_base.specs.declared.files.File.{File}
use Rattle.ix_coding.specs.Spelling.{Is64}

-- each has a number of 64 bits
abbrev pub AreNumbered : List File → Type 0
AreNumbered files = AllByRecursion (λ (file : File). Is64 file.number) files
