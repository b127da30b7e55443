-- What is left where all that was given is committed.
use Rattle.std.proofs.Common.{List}
use Rattle.ix_disk.specs.declared.disk.Disk.{Ghosts}
use Rattle.ix_manifest.specs.Book.{NamedItems}
use Rattle.ix_model.specs.Given.{Chooser}
use Rattle.ix_model.specs.declared.commands.TimedCommand.{TimedCommand}
use Rattle.ix_store.specs.declared.store.Store.{Store}
use Rattle.ix_run.specs.Giving.{HasKeptAll}
use Rattle.ix_run.specs.Running.{Outset}
use Rattle.ix_run.proofs.Given.{kept_here}
use Rattle.indexd_run.specs.Ends.{IsLeft}

-- the last commit is that at the end
pub left_all : {D : Type 0} (g : Ghosts D) {M : Type 0} (fits : NamedItems → Type 0) (holds : Chooser → List TimedCommand → M → Type 0)
    (s : Outset D) (may : List TimedCommand → Type 0) (orders : List TimedCommand) (store : Store M) (disk : D) → may orders →
    HasKeptAll g fits holds s orders store disk → IsLeft g fits holds s may store disk
left_all g fits holds s may orders store disk allowed all = record {
  orders = orders;
  allowed = allowed;
  all = all;
  committed = disk;
  lasts = kept_here g fits holds s orders store disk all;
}
