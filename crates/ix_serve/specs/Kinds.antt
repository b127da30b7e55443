-- Kinds of states in memory.
use Rattle.std.specs.Prelude.{List}
use Rattle.ix_manifest.specs.Book.{NamedItems}
use Rattle.ix_model.specs.Given.{Chooser}
use Rattle.ix_model.specs.declared.commands.TimedCommand.{TimedCommand}

-- what a state in memory takes, what its book may be, and whether it is that of a history
pub record Kind (M : Type 0) : Type 1 where
  pub takes : TimedCommand → Type 0
  pub fits : NamedItems → Type 0
  pub holds : Chooser → List TimedCommand → M → Type 0

abbrev pub kind : {M : Type 0} → (TimedCommand → Type 0) → (NamedItems → Type 0) → (Chooser → List TimedCommand → M → Type 0) → Kind M
kind takes fits holds = record { takes = takes; fits = fits; holds = holds }
