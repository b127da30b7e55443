-- The body by which a mount begins the next run, and the log behind it.
use Rattle.std.specs.Prelude.{◌≡◌, ◌+◌, ℕ, List, [], ◌∷◌, ◌++◌, not}
use Rattle.ix_disk.specs.Image.{Image, bytes_in}
use Rattle.ix_log.specs.Log.{HasBodies}
use Rattle.ix_manifest.specs.Book.{NamedItems, run_in, has_settings, IsBody}
use Rattle.ix_manifest.specs.Root.{current}
use Rattle.ix_commit.specs.Reads.{LeadsTo, first_items, next_run}

-- The current log, the one of this number, leads to a book in the first image. In the second it has
-- one body more, which begins the next run, and the book then is this one.
pub record HasGrown (fits : NamedItems → Type 0) (number : ℕ) (first second : Image) (book : NamedItems) : Type 0 where
  pub before : NamedItems
  pub leads : LeadsTo fits before first
  pub counted : number ≡ leads.checkpoints + 1
  pub is : book ≡ next_run before
  pub body : List ℕ
  pub begins : IsBody (first_items (not (has_settings before)) (run_in before + 1)) body
  pub grown : HasBodies (leads.bodies ++ body ∷ []) (bytes_in second (current leads.checkpoints))
