-- What a command is worked out to, by what is in memory.
use Rattle.std.specs.Prelude.{◌≡◌, ℕ, List, [], ◌∷◌, ◌++◌, length, Option, Some, None, if◌then◌else◌, All}
use Rattle.std.specs.List.{AllByRecursion}
use Rattle.std.specs.List.Sorted.{IsPermutation}
use Rattle.ix_base.specs.declared.events.Routed.{Routed}
use Rattle.ix_bounds.specs.Names.{BringsLimits}
use Rattle.ix_bounds.specs.Shelving.{AreSettings}
use Rattle.ix_items.specs.declared.items.Entry.{Entry}
use Rattle.ix_items.specs.declared.items.Kept.{Kept}
use Rattle.ix_commit.specs.declared.file_copy.FileCopy.{FileCopy}
use Rattle.ix_commit.specs.declared.write_batch.Append.{Append}
use Rattle.ix_life.specs.declared.sets.LimitSet.{LimitSet}
use Rattle.ix_life.specs.declared.views.IndexView.{IndexView}
use Rattle.ix_model.specs.Given.{Chooser}
use Rattle.ix_model.specs.Ledger.{is_of}
use Rattle.ix_model.specs.Ranked.{ranked}
use Rattle.ix_model.specs.Step.{state_after}
use Rattle.ix_model.specs.declared.commands.TimedCommand.{TimedCommand}
use Rattle.ix_effects.specs.Guarding.{HasShortName, IsWritableEntry}
use Rattle.ix_effects.specs.declared.catalog_effect.Base.{Base}
use Rattle.ix_effects.specs.declared.catalog_effect.MoveFault.{MoveFault}
use Rattle.ix_effects.specs.declared.catalog_effect.MoveFault.TheVariants as faults
use Rattle.ix_effects.specs.declared.catalog_effect.CatalogEffect.{CatalogEffect}
use Rattle.ix_catalog.specs.Changes.{changes}
use Rattle.ix_catalog.specs.Dealing.{deal_all}
use Rattle.ix_catalog.specs.Lists.{AreAscending, find}
use Rattle.ix_catalog.specs.Shelves.{view_name, with_indexes}
use Rattle.ix_catalog.specs.Turning as turning
use Rattle.ix_catalog.specs.declared.placer.DealFault.{DealFault}
use Rattle.ix_catalog.specs.declared.placer.DealFault.TheVariants as deals
use Rattle.ix_catalog.specs.declared.placer.Work.{Work}
use Rattle.ix_catalog.specs.declared.index_table.IndexTable.{IndexTable}
use Rattle.ix_catalog.specs.declared.housekeeping_result.HousekeepingResult.{HousekeepingResult}
use Rattle.ix_model.specs.Shelved.{shelved_indexes}
use Rattle.ix_state.specs.Held.{ledger_of}

abbrev pub by_deal : DealFault → MoveFault
by_deal deals.Full = faults.Full
by_deal deals.NoMemory = faults.NoMemory

-- ---- what stands before a command

-- the entries of the ledger, with those that came to it
abbrev pub here : Base → List Entry
here b = ledger_of b.ledger.now b.storage.now.ledger

abbrev pub shelves_in : Base → IndexTable
shelves_in b = b.storage.now.shelves

-- ---- what is left where nothing froze

-- what changed can be written
pub record CanBeSaid (more : List Entry) (old new : IndexTable) : Type 0 where
  pub order : AreAscending view_name old.indexes
  pub names : All HasShortName new.indexes
  pub entries : All IsWritableEntry more

-- the ledger and the moment of the last Tick are as they were
abbrev pub left : Base → IndexTable → List Append → List FileCopy → ℕ → CatalogEffect
left b shelves pieces copies count = record {
  storage = record { shelves = shelves; ledger = b.storage.now.ledger; last = b.moment; tick = b.storage.now.tick };
  pieces = pieces;
  copies = copies;
  items = changes (here b) [] (shelves_in b) shelves;
  done_with = [];
  moved = count;
}

-- ---- events

abbrev pub begun : Base → Work
begun b = record { shelves = shelves_in b; pieces = [] }

abbrev pub worked : Base → List Routed → Work
worked b outcomes = deal_all b.set.now (here b) b.moment (begun b) outcomes

abbrev pub dealt : Base → List Routed → CatalogEffect
dealt b outcomes = left b (worked b outcomes).shelves (worked b outcomes).pieces [] 0

-- ---- a turn of housekeeping

abbrev pub made : Base → HousekeepingResult
made b = turning.turn_all b.moment (shelves_in b)

-- the new entries come among the others, in the order in which they are seen; where there are none
-- the ledger is as it was
abbrev pub ledger_behind : Base → List Entry → Option (List Entry)
ledger_behind b [] = b.storage.now.ledger
ledger_behind b (e ∷ more) = Some (ranked (here b ++ e ∷ more))

abbrev pub turned_shelves : Base → HousekeepingResult → IndexTable
turned_shelves b t = with_indexes t.indexes t.next_file (shelves_in b)

abbrev pub turned : Base → HousekeepingResult → CatalogEffect
turned b t = record {
  storage = record { shelves = turned_shelves b t; ledger = ledger_behind b t.entries; last = b.moment; tick = b.moment };
  pieces = [];
  copies = t.copies;
  items = changes (here b ++ t.entries) t.entries (shelves_in b) (turned_shelves b t);
  done_with = t.files;
  moved = length t.entries;
}

-- ---- a roll

abbrev pub rolled : Base → List ℕ → CatalogEffect
rolled b index =
    left b (turning.roll index (shelves_in b)) [] [] (turning.open_in (find view_name index (shelves_in b).indexes))

-- ---- a thaw

-- the entry of a bucket in the ledger
abbrev pub entry_of : List ℕ → ℕ → List Entry → Option Entry
entry_of index id [] = None
entry_of index id (e ∷ es) = if is_of index id e then Some e else entry_of index id es

abbrev pub thawed : Base → Entry → ℕ → CatalogEffect
thawed b e archive = left b (turning.thaw e (shelves_in b)) [] (turning.thaw_copy e archive (shelves_in b).next_file ∷ []) 1

-- ---- a change of settings

-- the indexes that are seen become these once other settings hold
pub record Reshelves (ledger : List Entry) (next : LimitSet) (old new : List IndexView) : Type 0 where
  pub choose : Chooser
  pub history : List TimedCommand
  pub before : List Kept
  pub behind : List Kept
  pub limits : AllByRecursion BringsLimits history
  pub settings : AreSettings behind next
  pub old_is : old ≡ shelved_indexes before (state_after choose history).catalog.indexes
  pub ledger_is : IsPermutation ledger (state_after choose history).catalog.ledger
  pub new_is : new ≡ shelved_indexes behind (state_after choose history).catalog.indexes

abbrev pub configured_shelves : Base → List Routed → List IndexView → IndexTable
configured_shelves b outcomes indexes = with_indexes indexes (worked b outcomes).shelves.next_file (worked b outcomes).shelves

abbrev pub configured : Base → List Routed → List IndexView → CatalogEffect
configured b outcomes indexes = left b (configured_shelves b outcomes indexes) (worked b outcomes).pieces [] 0
