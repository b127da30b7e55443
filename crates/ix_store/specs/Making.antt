-- What the state in memory works out for a command.
use Rattle.std.specs.Prelude.{◌≡◌, ◌<◌, ◌^◌, ℕ, false, List, [], ◌∷◌, ◌++◌, Option, Some, None, is_some}
use Rattle.std.specs.List.{AllByRecursion}
use Rattle.ix_base.specs.declared.files.File.{File}
use Rattle.ix_items.specs.Spelling.{HasSpelling}
use Rattle.ix_items.specs.declared.items.Item.{Item}
use Rattle.ix_items.specs.declared.items.Item.TheVariants as items
use Rattle.ix_manifest.specs.Book.{NamedItems, NoneUnder, named}
use Rattle.ix_commit.specs.Drafts.{Leads}
use Rattle.ix_commit.specs.Snapshot.{Snapshot}
use Rattle.ix_commit.specs.declared.write_batch.WriteBatch.{WriteBatch}
use Rattle.ix_model.specs.Bounds.{IsAllowed}
use Rattle.ix_model.specs.Given.{Chooser}
use Rattle.ix_model.specs.Judged.{adds, moved, needs_tick}
use Rattle.ix_model.specs.Step.{state_after, effective}
use Rattle.ix_model.specs.declared.commands.Command.TheVariants.{Tick}
use Rattle.ix_model.specs.declared.commands.TimedCommand.{TimedCommand}
use Rattle.ix_model.specs.Done.{AreLetGo}
use Rattle.ix_model.specs.OnDisk.{HasNoneFrom}
use Rattle.ix_model.specs.Snap.{snapshot_of}
use Rattle.ix_store.specs.Written.{over, AreDone}
use Rattle.ix_store.specs.declared.memory.Made.{Made}

-- the history with what an accepted command adds to it
abbrev pub with_order : Chooser → List TimedCommand → TimedCommand → List TimedCommand
with_order choose history order = history ++ adds (state_after choose history) order

-- and with the Tick alone that may come with it
abbrev pub with_tick : List TimedCommand → TimedCommand → List TimedCommand
with_tick history order = history ++ record { command = Tick; moment = order.moment } ∷ []

-- ---- drafts

-- the run is left alone
abbrev pub LeavesRun : WriteBatch → Type 0
LeavesRun draft = NoneUnder (named 2 [] 0) draft.items

-- A draft leads from one snapshot to another, and leaves the run alone.
pub record LeadsOn (draft : WriteBatch) (old from to : Snapshot) : Type 0 where
  pub leads : Leads draft old from to
  pub run : LeavesRun draft

-- one draft, or two of which the first leads half way
abbrev pub LeadsBy : Option WriteBatch → WriteBatch → Snapshot → Snapshot → Snapshot → Snapshot → Type 0
LeadsBy None second old from mid to = LeadsOn second old from to
LeadsBy (Some first) second old from mid to = LeadsOn first old from mid × LeadsOn second old mid to

-- the same of drafts that may say of the run what they like
abbrev pub LeadsThrough : Option WriteBatch → WriteBatch → Snapshot → Snapshot → Snapshot → Snapshot → Type 0
LeadsThrough None second old from mid to = Leads second old from to
LeadsThrough (Some first) second old from mid to = Leads first old from mid × Leads second old mid to

-- with one item more
abbrev pub with_last : Item → WriteBatch → WriteBatch
with_last item draft = record { pieces = draft.pieces; copies = draft.copies; items = draft.items ++ item ∷ [] }

abbrev pub IsProper : WriteBatch → Type 0
IsProper draft = AllByRecursion HasSpelling draft.items

abbrev pub AreProper : Option WriteBatch → WriteBatch → Type 0
AreProper None second = IsProper second
AreProper (Some first) second = IsProper first × IsProper second

-- ---- what is made

-- What was worked out for a command that may be accepted behind a history.
pub record IsMade {N : Type 0} (is_ready : Chooser → List TimedCommand → N → Type 0) (fits : NamedItems →
    Type 0) (choose : Chooser) (history : List TimedCommand) (order : TimedCommand) (drawn : ℕ) (made : Made N) : Type 0 where
  pub allowed : IsAllowed choose false drawn (state_after choose history) order
  -- the state in memory then
  pub ready : is_ready choose (with_order choose history order) made.next
  -- there is a first draft where a Tick comes with the command
  pub ticks : is_some made.first ≡ needs_tick (state_after choose history) order
  -- the drafts lead to what the longer history leaves, from whatever was committed before
  pub leads : (old : Snapshot) → HasNoneFrom (state_after choose history).catalog.next_file old.contents →
      LeadsBy made.first made.second old (snapshot_of choose history) (snapshot_of choose (with_tick history order))
      (snapshot_of choose (with_order choose history order))
  -- the files that the command is done with: each is, and each that a bucket or an archive had and
  -- none has any more is among them
  pub done : AreDone (state_after choose (with_order choose history order)).catalog made.done_with
  pub let_go : AreLetGo (state_after choose history).catalog (state_after choose (with_order choose history order)).catalog made.done_with
  pub moved : made.moved ≡ moved (state_after choose history) order.command (effective (state_after choose history).last order.moment)
  -- a mount takes what is written then
  pub fit : (run : ℕ) (files : List File) → run < 2 ^ 63 → AreDone (state_after choose (with_order choose history order)).catalog files →
      fits (over run (Some (items.Removals files)) (snapshot_of choose (with_order choose history order)).book)
