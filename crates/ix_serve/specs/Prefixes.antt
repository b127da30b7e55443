-- Images of prefixes of a history, in one run.
use Rattle.std.specs.Prelude.{◌≤◌, ℕ, List, length, take}
use Rattle.ix_manifest.specs.Book.{NamedItems}
use Rattle.ix_disk.specs.Image.{Image}
use Rattle.ix_model.specs.Given.{Chooser}
use Rattle.ix_model.specs.declared.commands.TimedCommand.{TimedCommand}
use Rattle.ix_store.specs.Written.{RecoversTo}

-- an image stands for this run and a prefix with at least k commands
pub record StandsIn (fits : NamedItems → Type 0) (run : ℕ) (choose : Chooser) (history : List TimedCommand) (k : ℕ) (image : Image) : Type 0
  where
    pub count : ℕ
    pub least : k ≤ count
    pub most : count ≤ length history
    pub stands : RecoversTo fits run choose (take count history) image
