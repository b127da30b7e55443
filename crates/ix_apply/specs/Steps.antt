-- What a command is worked out from and to.
use Rattle.std.specs.Prelude.{◌≡◌, ℤ, List, [], ◌∷◌, ◌++◌, None}
use Rattle.std.specs.List.{AllByRecursion, AllZip}
use Rattle.ix_base.specs.declared.files.File.{File}
use Rattle.ix_channels.specs.Changes as channels
use Rattle.ix_channels.specs.declared.change.ChannelChange.{ChannelChange}
use Rattle.ix_channels.specs.declared.change.ChannelChange.TheVariants as changes
use Rattle.ix_items.specs.Spelling.{HasSpelling}
use Rattle.ix_items.specs.declared.items.Item.{Item}
use Rattle.ix_items.specs.declared.items.Item.TheVariants as items
use Rattle.ix_commit.specs.Snapshot.{Snapshot}
use Rattle.ix_state.specs.Configs.{IsConfig, IsChooser}
use Rattle.ix_state.specs.Taken.{IsTakenCommand, AreGiven}
use Rattle.ix_model.specs.Bounds.{KeepsBounds}
use Rattle.ix_model.specs.Given.{Chooser}
use Rattle.ix_model.specs.Judged as machine
use Rattle.ix_model.specs.Judged.{judged}
use Rattle.ix_model.specs.State.{State}
use Rattle.ix_model.specs.Step.{state_after, effective}
use Rattle.ix_model.specs.declared.commands.Command.{Command}
use Rattle.ix_model.specs.declared.commands.Command.TheVariants.{Begin, Block, End, Tick, Roll, Thaw, Configure, Direct}
use Rattle.ix_model.specs.declared.commands.Config.{Config}
use Rattle.ix_model.specs.declared.commands.TimedCommand.{TimedCommand}
use Rattle.ix_channels.specs.Working.{IsWorked}
use Rattle.ix_channels.specs.declared.channel_effect.ChannelEffect.{ChannelEffect}
use Rattle.ix_effects.specs.declared.catalog_effect.Base.{Base}
use Rattle.ix_effects.specs.declared.catalog_effect.CatalogEffect.{CatalogEffect}
use Rattle.ix_model.specs.Done.{AreLetGo}
use Rattle.ix_model.specs.OnDisk.{HasNoneFrom}
use Rattle.ix_model.specs.Said.{spot_items, settings_items}
use Rattle.ix_model.specs.Shelved.{IsSet}
use Rattle.ix_model.specs.Snap.{snapshot_of}
use Rattle.ix_state.specs.Held.{IsOpen, SeesChannels, SeesBeside}
use Rattle.ix_state.specs.declared.state.StoreState.{StoreState}
use Rattle.ix_state.specs.declared.state.CatalogState.{CatalogState}
use Rattle.ix_store.specs.Making.{LeadsOn}
use Rattle.ix_store.specs.Written.{AreDone}
use Rattle.ix_apply.specs.Next.{HasRoom}
use Rattle.ix_apply.specs.Settings.{config_after, config_for, spots_for}
use Rattle.ix_apply.specs.Spots as spots
use Rattle.ix_apply.specs.declared.spots.SpotChange.TheVariants as spot_changes
use Rattle.ix_apply.specs.declared.effect.Beside.{Beside}
use Rattle.ix_apply.specs.declared.effect.Effect.{Effect}
use Rattle.ix_apply.specs.declared.context.CommandContext.{CommandContext}

-- ---- before a command

-- What a history leads to is in memory: its channels, spots and settings in a state, and the rest
-- in a storage.
pub record StorageRepresents (choose : Chooser) (history : List TimedCommand) (held : StoreState) (storage : CatalogState) : Type 0 where
  pub chooser : IsChooser choose
  pub given : AreGiven history
  pub channels : SeesChannels (state_after choose history) held
  pub rest : SeesBeside (state_after choose history) held.view.ledger storage

-- A command may come next, which no cause hinders.
pub record MayCome (choose : Chooser) (history : List TimedCommand) (order : TimedCommand) (w : CommandContext) : Type 0 where
  pub stands : StorageRepresents choose history w.held.now w.storage.now
  pub taken : IsTakenCommand order.command
  pub no_cause : judged (state_after choose history) order.command ≡ None
  pub moment_is : w.moment ≡ effective (state_after choose history).last order.moment

-- ---- behind it

-- settings in memory are those in force
pub record SeesConfig (m : State) (config : Config) : Type 0 where
  pub kept : config.kept ≡ m.force
  pub set : IsSet m.force config.limits
  pub sound : IsConfig config

-- What was worked out leads from the state of the history to that of the longer one.
pub record IsStep (choose : Chooser) (history : List TimedCommand) (order : TimedCommand) (held : StoreState) (step : Effect) : Type 0 where
  pub config : SeesConfig (state_after choose (history ++ order ∷ [])) (config_after held.config step.next.config)
  pub channels : AllZip IsOpen (state_after choose (history ++ order ∷ [])).channels
      (channels.changed step.next.channels held.channels.items)
  pub spots_are : spots.placed step.next.spot held.spots.items ≡ (state_after choose (history ++ order ∷ [])).spots
  pub rest : SeesBeside (state_after choose (history ++ order ∷ [])) held.view.ledger step.next.storage
  pub leads : (old : Snapshot) → HasNoneFrom (state_after choose history).catalog.next_file old.contents →
      LeadsOn step.draft old (snapshot_of choose history) (snapshot_of choose (history ++ order ∷ []))
  pub done : AreDone (state_after choose (history ++ order ∷ [])).catalog step.done_with
  pub let_go : AreLetGo (state_after choose history).catalog (state_after choose (history ++ order ∷ [])).catalog step.done_with
  pub many : step.moved ≡ machine.moved (state_after choose history) order.command
      (effective (state_after choose history).last order.moment)

-- for every history that it may come behind, whatever moment it is given at
abbrev pub order_of : Command → ℤ → TimedCommand
order_of command given = record { command = command; moment = given }

abbrev pub Steps : Command → CommandContext → Effect → Type 0
Steps command w step = (choose : Chooser) (history : List TimedCommand) (given : ℤ) → MayCome choose history (order_of command given) w →
    IsStep choose history (order_of command given) w.held.now step

-- no such history keeps the bounds of a store, before the command and behind it
abbrev pub IsOver : Command → CommandContext → Type 0
IsOver command w = (choose : Chooser) (history : List TimedCommand) (given : ℤ) → MayCome choose history (order_of command given) w →
    KeepsBounds (state_after choose history) → KeepsBounds (state_after choose (history ++ order_of command given ∷ [])) → ⊥

-- its items can be written, and what it leaves can be taken without memory
pub record IsUsable (held : StoreState) (step : Effect) : Type 0 where
  pub proper : AllByRecursion HasSpelling step.draft.items
  pub room : HasRoom held step.next

-- ---- its parts

-- What becomes of settings and spots.
pub record IsBeside (command : Command) (held : StoreState) (b : Beside) : Type 0 where
  pub items_are : b.items ≡ spot_items command ++ settings_items command
  pub config_is : config_after held.config b.config ≡ config_for held.config command
  pub spots_are : spots.placed b.spot held.spots.items ≡ spots_for held.spots.items command

pub record CanBeside (held : StoreState) (b : Beside) : Type 0 where
  pub proper : AllByRecursion HasSpelling b.items
  pub room : spots.HasRoom b.spot held.spots

abbrev pub moments_of : CatalogState → Item
moments_of storage = items.Moments storage.last storage.tick

-- a step with what became of indexes and files, of channels, and of settings and spots
abbrev pub step_with : CatalogEffect → ChannelChange → List Item → Beside → Effect
step_with moved change said b = record {
  next = record { config = b.config; channels = change; spot = b.spot; storage = moved.storage };
  draft = record {
    pieces = moved.pieces;
    copies = moved.copies;
    items = moved.items ++ (said ++ (b.items ++ moments_of moved.storage ∷ []));
  };
  done_with = moved.done_with;
  moved = moved.moved;
}

-- nothing becomes of settings and spots
abbrev pub no_beside : Beside
no_beside = record { config = None; spot = spot_changes.Same; items = [] }

-- ---- indexes, files and the ledger

-- what it is worked out from for these
pub record IsBase (w : CommandContext) (base : Base) : Type 0 where
  pub ledger : base.ledger.now ≡ w.held.now.view.ledger
  pub set : base.set.now ≡ w.held.now.config.limits
  pub storage : base.storage.now ≡ w.storage.now
  pub moment_is : base.moment ≡ w.moment

-- what becomes of channels is worked out, for every history that the command may come behind
abbrev pub WorksOut : Command → CommandContext → ChannelEffect → Type 0
WorksOut command w worked = (choose : Chooser) (history : List TimedCommand) (given : ℤ) →
    MayCome choose history (order_of command given) w →
    IsWorked choose history command w.moment w.held.now worked

-- ---- commands that leave channels, settings and spots as they are

abbrev pub IsStill : Command → Type 0
IsStill (Begin channel meta) = ⊥
IsStill (Block channel bytes spot) = ⊥
IsStill (End channel) = ⊥
IsStill Tick = Unit {0}
IsStill (Roll index) = Unit {0}
IsStill (Thaw index id) = Unit {0}
IsStill (Configure config) = ⊥
IsStill (Direct events) = ⊥
