-- What a command is worked out to, with the Tick that may come before it.
use Rattle.std.specs.Prelude.{◌≡◌, ◌++◌, ◌∷◌, [], ℤ, Bool, List, Some, None, is_some, Result, Ok, Err, MatchResult}
use Rattle.ix_bounds.specs.Parts.{IsPartsOf}
use Rattle.ix_commit.specs.Snapshot.{Snapshot}
use Rattle.ix_commit.specs.declared.write_batch.WriteBatch.{WriteBatch}
use Rattle.ix_state.specs.Configs.{IsChooser}
use Rattle.ix_state.specs.Taken.{IsTakenCommand, AreGiven}
use Rattle.ix_model.specs.Bounds.{KeepsBounds, come_to}
use Rattle.ix_model.specs.Given.{Chooser}
use Rattle.ix_model.specs.Judged as machine
use Rattle.ix_model.specs.Judged.{judged, needs_tick}
use Rattle.ix_model.specs.Step.{state_after, effective}
use Rattle.ix_base.specs.declared.files.File.{File}
use Rattle.ix_model.specs.declared.commands.Command.{Command}
use Rattle.ix_model.specs.declared.commands.Command.TheVariants.{Tick}
use Rattle.ix_model.specs.declared.commands.TimedCommand.{TimedCommand}
use Rattle.ix_model.specs.Done.{AreLetGo}
use Rattle.ix_model.specs.OnDisk.{HasNoneFrom}
use Rattle.ix_model.specs.Snap.{snapshot_of}
use Rattle.ix_state.specs.Held.{Holds, shelves_of}
use Rattle.ix_state.specs.declared.state.StoreState.{StoreState}
use Rattle.ix_state.specs.declared.state.CatalogState.{CatalogState}
use Rattle.ix_store.specs.Making.{AreProper, LeadsBy, with_order, with_tick}
use Rattle.ix_store.specs.Written.{AreDone}
use Rattle.ix_apply.specs.Next.{HasRoom, IsReady}
use Rattle.ix_apply.specs.Seen.{parts_of}
use Rattle.ix_apply.specs.Steps.{StorageRepresents, IsStep, order_of}
use Rattle.ix_apply.specs.declared.prepared.PreparedCommand.{PreparedCommand}
use Rattle.ix_apply.specs.declared.effect.Effect.{Effect}
use Rattle.ix_apply.specs.declared.effect.StepFault.{StepFault}
use Rattle.ix_apply.specs.declared.effect.StepFault.TheVariants as faults
use Rattle.ix_apply.specs.declared.prepared.Ticked.{Ticked}

-- A command may come to a state that holds a history, which no cause hinders.
pub record MayFollow (choose : Chooser) (history : List TimedCommand) (order : TimedCommand) (held : StoreState) : Type 0 where
  pub chooser : IsChooser choose
  pub given : AreGiven history
  pub taken : IsTakenCommand order.command
  pub holds : Holds choose history held
  pub no_cause : judged (state_after choose history) order.command ≡ None

-- What was worked out for it, of which the bounds are still to be seen.
pub record IsPair (choose : Chooser) (history : List TimedCommand) (order : TimedCommand) (held : StoreState)
    (pair : PreparedCommand) : Type 0 where
  pub ready : KeepsBounds (come_to choose (state_after choose history) order) →
      IsReady choose (with_order choose history order) held pair.step.next
  pub parts : IsPartsOf (come_to choose (state_after choose history) order) (parts_of held pair.step.next)
  pub ticks : is_some pair.first ≡ needs_tick (state_after choose history) order
  pub leads : (old : Snapshot) → HasNoneFrom (state_after choose history).catalog.next_file old.contents →
      LeadsBy pair.first pair.step.draft old (snapshot_of choose history) (snapshot_of choose (with_tick history order))
      (snapshot_of choose (with_order choose history order))
  pub done : AreDone (state_after choose (with_order choose history order)).catalog pair.step.done_with
  pub let_go : AreLetGo (state_after choose history).catalog (state_after choose (with_order choose history order)).catalog
      pair.step.done_with
  pub many : pair.step.moved ≡ machine.moved (state_after choose history) order.command
      (effective (state_after choose history).last order.moment)

-- its items can be written, and what it leaves can be taken without memory
pub record IsUsablePair (held : StoreState) (pair : PreparedCommand) : Type 0 where
  pub proper : AreProper pair.first pair.step.draft
  pub room : HasRoom held pair.step.next

-- the storage with which it begins
pub record IsBegun (held : StoreState) (storage : CatalogState) : Type 0 where
  pub shelves : storage.shelves ≡ shelves_of held
  pub ledger : storage.ledger ≡ None
  pub last : storage.last ≡ held.last
  pub tick : storage.tick ≡ held.tick

-- for every history that the state may hold
abbrev pub Pairs : TimedCommand → StoreState → PreparedCommand → Type 0
Pairs order held pair = (choose : Chooser) (history : List TimedCommand) → MayFollow choose history order held →
    IsPair choose history order held pair

-- which is within the bounds of a store
abbrev pub PairsWithin : TimedCommand → StoreState → PreparedCommand → Type 0
PairsWithin order held pair = (choose : Chooser) (history : List TimedCommand) → MayFollow choose history order held →
    IsPair choose history order held pair × KeepsBounds (come_to choose (state_after choose history) order)

-- no such history keeps the bounds of a store
abbrev pub IsOver : TimedCommand → StoreState → Type 0
IsOver order held = (choose : Chooser) (history : List TimedCommand) → MayFollow choose history order held →
    KeepsBounds (come_to choose (state_after choose history) order) → ⊥

-- ---- its parts

abbrev pub done_with_more : Effect → List File → Effect
done_with_more step files = record { next = step.next; draft = step.draft; done_with = step.done_with ++ files; moved = step.moved }

-- a step, where there is one, is done with more files, or there is no room for them
abbrev pub GoesOn : Result Effect StepFault → List File → Result Effect StepFault → Type 0
GoesOn (Ok step) files result = MatchResult result (λ more. more ≡ done_with_more step files) (λ fault. fault ≡ faults.NoMemory)
GoesOn (Err fault) files result = result ≡ Err fault

-- the one behind the other, done with the files of both
abbrev pub pair_with : Effect → Effect → PreparedCommand
pair_with first second = record { first = Some first.draft; step = done_with_more second first.done_with }

-- a draft, and the step behind it where there is one
abbrev pub paired : WriteBatch → Result Effect StepFault → Result PreparedCommand StepFault
paired first (Ok step) = Ok (record { first = Some first; step = step })
paired first (Err fault) = Err fault

-- the storage with which it begins, the moment that it has, and whether a Tick is due
pub record Begins (choose : Chooser) (history : List TimedCommand) (order : TimedCommand) (held : StoreState) (begun : CatalogState)
    (moment : ℤ) (is_due : Bool) : Type 0 where
  pub follows : MayFollow choose history order held
  pub is_begun : IsBegun held begun
  pub moment_is : moment ≡ effective (state_after choose history).last order.moment
  pub due_is : needs_tick (state_after choose history) order ≡ is_due

abbrev pub PairsWhere : Bool → Command → StoreState → CatalogState → ℤ → PreparedCommand → Type 0
PairsWhere is_due command held begun moment pair = (choose : Chooser) (history : List TimedCommand) (given : ℤ) →
    Begins choose history (order_of command given) held begun moment is_due → IsPair choose history (order_of command given) held pair

abbrev pub IsOverWhere : Bool → Command → StoreState → CatalogState → ℤ → Type 0
IsOverWhere is_due command held begun moment = (choose : Chooser) (history : List TimedCommand) (given : ℤ) →
    Begins choose history (order_of command given) held begun moment is_due →
    KeepsBounds (come_to choose (state_after choose history) (order_of command given)) → ⊥

-- ---- the Tick

-- what a Tick is worked out to
pub record IsTickOf (choose : Chooser) (history : List TimedCommand) (given : ℤ) (held : StoreState) (ticked : Ticked) : Type 0 where
  pub step : Effect
  pub is_step : IsStep choose history (order_of Tick given) held step
  pub storage : ticked.storage ≡ step.next.storage
  pub draft : ticked.draft ≡ step.draft
  pub files : ticked.done_with ≡ step.done_with

-- What a history leads to is in memory, and a Tick has this moment.
pub record TickMayCome (choose : Chooser) (history : List TimedCommand) (given : ℤ) (held : StoreState) (begun : CatalogState)
    (moment : ℤ) : Type 0 where
  pub stands : StorageRepresents choose history held begun
  pub moment_is : moment ≡ effective (state_after choose history).last given

abbrev pub TickSteps : StoreState → CatalogState → ℤ → Ticked → Type 0
TickSteps held begun moment ticked = (choose : Chooser) (history : List TimedCommand) (given : ℤ) →
    TickMayCome choose history given held begun moment →
    IsTickOf choose history given held ticked

abbrev pub TickIsOver : StoreState → CatalogState → ℤ → Type 0
TickIsOver held begun moment = (choose : Chooser) (history : List TimedCommand) (given : ℤ) →
    TickMayCome choose history given held begun moment →
    KeepsBounds (state_after choose history) → KeepsBounds (state_after choose (history ++ order_of Tick given ∷ [])) → ⊥
