-- What a command makes of the indexes, the files of buckets and the ledger of a state.
use Rattle.std.specs.Prelude.{◌≡◌, ℕ, ℤ, List, [], ◌∷◌, ◌++◌, None}
use Rattle.std.specs.List.{AllByRecursion}
use Rattle.ix_base.specs.declared.events.Routed.{Routed}
use Rattle.ix_items.specs.declared.items.Entry.{Entry}
use Rattle.ix_bounds.specs.Names.{BringsLimits}
use Rattle.ix_bounds.specs.Shelving.{AreSettings}
use Rattle.ix_commit.specs.Contents.{Contents}
use Rattle.ix_commit.specs.Drafts.{AreFit, AreFitCopies, with_pieces, with_copies}
use Rattle.ix_commit.specs.Snapshot.{Forgets}
use Rattle.ix_life.specs.declared.sets.LimitSet.{LimitSet}
use Rattle.ix_model.specs.Bounds.{KeepsBounds}
use Rattle.ix_model.specs.Given.{Chooser}
use Rattle.ix_model.specs.Judged as judging
use Rattle.ix_model.specs.State.{State}
use Rattle.ix_model.specs.Step as machine
use Rattle.ix_model.specs.Step.{state_after, effective}
use Rattle.ix_model.specs.declared.commands.Command.{Command}
use Rattle.ix_model.specs.declared.commands.Command.TheVariants.{Begin, Block, End, Tick, Roll, Thaw, Configure, Direct}
use Rattle.ix_model.specs.declared.commands.Config.{Config}
use Rattle.ix_model.specs.declared.commands.TimedCommand.{TimedCommand}
use Rattle.ix_effects.specs.declared.catalog_effect.Base.{Base}
use Rattle.ix_effects.specs.declared.catalog_effect.CatalogEffect.{CatalogEffect}
use Rattle.ix_model.specs.Contents.{contents_of}
use Rattle.ix_model.specs.Done.{AreLetGo, IsDone}
use Rattle.ix_model.specs.OnDisk.{HasNoneFrom}
use Rattle.ix_model.specs.Said.{shelf_items}
use Rattle.ix_model.specs.Shelved.{IsSet}
use Rattle.ix_state.specs.Held.{SeesBeside}

-- ---- before a command

-- What a history leads to is in memory, and the command that comes next is not refused.
pub record Precedes (choose : Chooser) (history : List TimedCommand) (order : TimedCommand) (base : Base) : Type 0 where
  pub sees : SeesBeside (state_after choose history) base.ledger.now base.storage.now
  pub set_is : IsSet (state_after choose history).force base.set.now
  pub moment_is : base.moment ≡ effective (state_after choose history).last order.moment
  pub accepted : judging.judged (state_after choose history) order.command ≡ None

-- a command that deals events and does no more to buckets
abbrev pub IsDealing : Command → Type 0
IsDealing (Begin channel meta) = Unit {0}
IsDealing (Block channel bytes spot) = Unit {0}
IsDealing (End channel) = Unit {0}
IsDealing Tick = ⊥
IsDealing (Roll index) = ⊥
IsDealing (Thaw index id) = ⊥
IsDealing (Configure config) = ⊥
IsDealing (Direct events) = Unit {0}

-- which commands are worked out: those for which this holds before them
abbrev pub Premise : Type 1
Premise = Chooser → List TimedCommand → TimedCommand → Type 0

abbrev pub deals : Base → List Routed → Premise
deals base outcomes choose history order =
    IsDealing order.command × (outcomes ≡ machine.outcomes choose (state_after choose history) order.command base.moment)

abbrev pub turns : Premise
turns choose history order = order.command ≡ Tick

abbrev pub rolls : List ℕ → Premise
rolls index choose history order = order.command ≡ Roll index

abbrev pub thaws : List ℕ → ℕ → Premise
thaws index id choose history order = order.command ≡ Thaw index id

-- new settings, with the limits that were loaded from them; what comes of the open channels is
-- dealt under the old ones
pub record Configures (base : Base) (outcomes : List Routed) (next : LimitSet) (choose : Chooser) (history : List TimedCommand)
    (order : TimedCommand) : Type 0 where
  pub config : Config
  pub command : order.command ≡ Configure config
  pub settings : AreSettings config.kept next
  -- so all settings before did
  pub limits : AllByRecursion BringsLimits (history ++ order ∷ [])
  pub outcomes_are : outcomes ≡ machine.outcomes choose (state_after choose history) order.command base.moment

-- ---- behind it

-- What was worked out leads from the one state to the other.
pub record Leads (m later : State) (command : Command) (ledger : List Entry) (moment : ℤ) (moved : CatalogEffect) : Type 0 where
  pub storage : SeesBeside later ledger moved.storage
  pub files : (old : Contents) → HasNoneFrom m.catalog.next_file old →
      AreFit (contents_of m.catalog) moved.pieces
      × AreFitCopies old (with_pieces moved.pieces (contents_of m.catalog)) moved.copies
      × Forgets (with_copies moved.copies (with_pieces moved.pieces (contents_of m.catalog))) (contents_of later.catalog)
  pub items_are : moved.items ≡ shelf_items m later
  pub done : AllByRecursion (IsDone later.catalog) moved.done_with
  pub let_go : AreLetGo m.catalog later.catalog moved.done_with
  pub moved_are : moved.moved ≡ judging.moved m command moment

-- the ledger is that of the state in memory, and the moment that of the command
abbrev pub IsMoved : Chooser → List TimedCommand → TimedCommand → List Entry → ℤ → CatalogEffect → Type 0
IsMoved choose history order ledger moment moved =
    Leads (state_after choose history) (state_after choose (history ++ order ∷ [])) order.command ledger moment moved

-- for every history that the base has in memory
abbrev pub Moves : Premise → Base → CatalogEffect → Type 0
Moves premise base moved = (choose : Chooser) (history : List TimedCommand) (order : TimedCommand) → Precedes choose history order base →
    premise choose history order →
    IsMoved choose history order base.ledger.now base.moment moved

-- no such history keeps the bounds of a store, before the command and behind it
abbrev pub IsOver : Premise → Base → Type 0
IsOver premise base = (choose : Chooser) (history : List TimedCommand) (order : TimedCommand) → Precedes choose history order base →
    premise choose history order →
    KeepsBounds (state_after choose history) → KeepsBounds (state_after choose (history ++ order ∷ [])) → ⊥
