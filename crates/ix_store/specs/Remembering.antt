-- What memory holds, whatever the files of buckets hold.
use Rattle.std.specs.Prelude.{◌≡◌, ℕ, List, ◌++◌, Option}
use Rattle.std.specs.List.{AllByRecursion}
use Rattle.ix_disk.specs.Image.{Image}
use Rattle.ix_items.specs.declared.items.Item.{Item}
use Rattle.ix_manifest.specs.Book.{NamedItems}
use Rattle.ix_commit.specs.Reads.{LeadsTo}
use Rattle.ix_model.specs.Given.{Chooser}
use Rattle.ix_model.specs.declared.commands.TimedCommand.{TimedCommand}
use Rattle.ix_model.specs.Snap.{snapshot_of}
use Rattle.ix_store.specs.Written.{over}

-- the logs of the image say what this history leaves, in some run
pub record SaysHistory (fits : NamedItems → Type 0) (choose : Chooser) (history : List TimedCommand) (image : Image) : Type 0 where
  pub book : NamedItems
  pub leads : LeadsTo fits book image
  pub run : ℕ
  pub removed : Option Item
  pub is : book ≡ over run removed (snapshot_of choose history).book

-- of whatever history the one state is, the other is of that history, with commands behind it
abbrev pub Remembers : {M : Type 0} → (Chooser → Type 0) → (TimedCommand → Type 0) → (Chooser → List TimedCommand → M → Type 0) → M → M →
    Type 0
Remembers chooses takes holds old new = (choose : Chooser) (history : List TimedCommand) → chooses choose → AllByRecursion takes history →
    holds choose history old → (more : List TimedCommand) × AllByRecursion takes (history ++ more) × holds choose (history ++ more) new
