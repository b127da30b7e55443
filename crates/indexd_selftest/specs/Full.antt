-- Where a store has no room for a selftest.
use Rattle.std.specs.Prelude.{◌≡◌, ◌⊎◌, ℕ, false, List, [], ◌∷◌, ◌++◌, drop}
use Rattle.ix_commit.specs.Reads.{HasNoRun}
use Rattle.ix_disk.specs.Image.{Image, nothing}
use Rattle.ix_manifest.specs.Book.{NamedItems}
use Rattle.ix_model.specs.Bounds.{IsFull}
use Rattle.ix_model.specs.Given.{Chooser}
use Rattle.ix_model.specs.Step.{state_after}
use Rattle.ix_model.specs.declared.commands.Config.{Config}
use Rattle.ix_model.specs.declared.commands.TimedCommand.{TimedCommand}
use Rattle.ix_run.specs.Giving.{given_all}
use Rattle.ix_store.specs.Counting.{numbers}
use Rattle.ix_store.specs.Written.{RecoversTo}
use Rattle.indexd_selftest.specs.Blocks.{AreCut}
use Rattle.indexd_selftest.specs.History.{AreInForce, orders}
use Rattle.indexd_selftest.specs.Lines.{stream}

-- A run that began behind the first `base` commands refuses a further one as `Full`: the state that
-- it leads to does not keep the bounds of a store, or there is no number for it.
abbrev pub HasNoRoom : Chooser → ℕ → List TimedCommand → TimedCommand → Type 0
HasNoRoom choose base history order = IsFull choose false (numbers (drop base history)) (state_after choose history) order

-- So it does one of these, behind those before it.
pub record OneHasNoRoom (choose : Chooser) (base : ℕ) (history orders : List TimedCommand) : Type 0 where
  pub before : List TimedCommand
  pub order : TimedCommand
  pub rest : List TimedCommand
  pub parts : orders ≡ before ++ order ∷ rest
  pub full : HasNoRoom choose base (given_all choose history before) order

-- So it does one of those that a stream is cut into.
pub record OneBlockHasNoRoom (choose : Chooser) (base : ℕ) (history : List TimedCommand) (make : List (List ℕ) →
    List TimedCommand) (x : ℕ) (bytes : List ℕ) : Type 0 where
  pub blocks : List (List ℕ)
  pub cut : AreCut x bytes blocks
  pub one : OneHasNoRoom choose base history (make blocks)

-- The first run of a selftest has no room for one of its commands, or the store has no room for
-- that run, as an empty disk reads.
abbrev pub FirstHasNoRoom : (NamedItems → Type 0) → Chooser → Config → ℕ → ℕ → Type 0
FirstHasNoRoom fits choose config seed count =
    HasNoRun fits nothing ⊎ OneBlockHasNoRoom choose 0 [] (orders config) seed (stream count)

-- The store has no room for the second run, as a disk reads on which the first one has left these
-- commands.
pub record SecondHasNoRun (fits : NamedItems → Type 0) (choose : Chooser) (history : List TimedCommand) : Type 0 where
  pub image : Image
  pub recovers : RecoversTo fits 1 choose history image
  pub none : HasNoRun fits image

-- One of the two: there is no room for the second run behind all commands of the selftest.
abbrev pub EitherHasNoRoom : (NamedItems → Type 0) → Chooser → Config → ℕ → ℕ → Type 0
EitherHasNoRoom fits choose config seed count =
    FirstHasNoRoom fits choose config seed count
    ⊎ ((blocks : List (List ℕ)) × AreCut seed (stream count) blocks
    × SecondHasNoRun fits choose (given_all choose [] (orders config blocks)))

-- There is no room in the store: whoever chooses the settings of the channel as the kept settings
-- give them.
pub record HasNoRoomAtAll (is_chooser : Chooser → Type 0) (fits : NamedItems → Type 0) (seed count : ℕ) : Type 0 where
  pub config : Config
  pub in_force : AreInForce config
  pub full : (choose : Chooser) → is_chooser choose → EitherHasNoRoom fits choose config seed count
