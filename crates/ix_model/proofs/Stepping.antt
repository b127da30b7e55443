-- What each of the few things that are done to the catalog keeps, every history keeps.
use Rattle.std.proofs.Common.{◌+◌, ℕ, ℤ, List, [], ◌∷◌}
use Rattle.std.specs.Prelude.{Option, Some, None}
use Rattle.std.specs.List.{AllByRecursion}
use Rattle.ix_base.specs.declared.events.Event.{Event}
use Rattle.ix_base.specs.declared.events.Routed.{Routed}
use Rattle.ix_base.specs.declared.events.Routed.TheVariants.{To, Null}
use Rattle.ix_items.specs.declared.items.Kept.{Kept}
use Rattle.ix_model.specs.Buckets.{Index}
use Rattle.ix_model.specs.Given.{Chooser, home, limits}
use Rattle.ix_model.specs.State.{State, Catalog, index_name, fresh_index, empty}
use Rattle.ix_model.specs.Step.{filled, deal_to, deal, deal_all, outcomes, turn_in, files_taken, all_turned, tick, roll, closed_index}
use Rattle.ix_model.specs.Step.{thaw, thawed_index, moves, step, effective, after_from, state_after}
use Rattle.ix_catalog.specs.Buckets.{named}
use Rattle.ix_model.specs.Sums.{IsSound}
use Rattle.ix_model.specs.declared.commands.Command.{Command}
use Rattle.ix_model.specs.declared.commands.Command.TheVariants.{Begin, Block, End, Tick, Roll, Thaw, Configure, Direct}
use Rattle.ix_model.specs.declared.commands.TimedCommand.{TimedCommand}
use Rattle.ix_model.proofs.Named.{all_change, all_change_or_insert}
use Rattle.ix_model.proofs.Sound.{sound_placed, sound_turned, sound_closed, sound_thawed}

-- dealing one outcome, a turn, a roll and a thaw keep P
pub record Keeps (P : Catalog → Type 0) : Type 0 where
  pub deals : (force : List Kept) (moment : ℤ) (s : Catalog) (o : Routed) → P s → P (deal force moment s o)
  pub ticks : (force : List Kept) (moment : ℤ) (s : Catalog) → P s → P (tick force moment s)
  pub rolls : (index : List ℕ) (s : Catalog) → P s → P (roll index s)
  pub thaws : (index : List ℕ) (id : ℕ) (s : Catalog) → P s → P (thaw index id s)

pub keeps_deals : (P : Catalog → Type 0) → Keeps P → (force : List Kept) (moment : ℤ) (s : Catalog) (os : List Routed) → P s →
    P (deal_all force moment s os)
keeps_deals P k force moment s [] h = h
keeps_deals P k force moment s (o ∷ os) h = keeps_deals P k force moment (deal force moment s o) os (k.deals force moment s o h)

keeps_moves : (P : Catalog → Type 0) → Keeps P → (force : List Kept) (command : Command) (moment : ℤ) (s : Catalog) → P s →
    P (moves force command moment s)
keeps_moves P k force (Begin channel meta) moment s h = h
keeps_moves P k force (Block channel bytes spot) moment s h = h
keeps_moves P k force (End channel) moment s h = h
keeps_moves P k force Tick moment s h = k.ticks force moment s h
keeps_moves P k force (Roll index) moment s h = k.rolls index s h
keeps_moves P k force (Thaw index id) moment s h = k.thaws index id s h
keeps_moves P k force (Configure config) moment s h = h
keeps_moves P k force (Direct events) moment s h = h

pub keeps_step : (P : Catalog → Type 0) → Keeps P → (choose : Chooser) (m : State) (o : TimedCommand) → P m.catalog →
    P (step choose m o).catalog
keeps_step P k choose m o h =
    let moment = effective m.last o.moment in
    keeps_moves P k m.force o.command moment (deal_all m.force moment m.catalog (outcomes choose m o.command moment))
    (keeps_deals P k m.force moment m.catalog (outcomes choose m o.command moment) h)

pub keeps_after : (P : Catalog → Type 0) → Keeps P → (choose : Chooser) (m : State) (h : List TimedCommand) → P m.catalog →
    P (after_from choose m h).catalog
keeps_after P k choose m [] p = p
keeps_after P k choose m (o ∷ h) p = keeps_after P k choose (step choose m o) h (keeps_step P k choose m o p)

-- ---- all buckets have the sums of their events

abbrev pub AllSound : Catalog → Type 0
AllSound s = AllByRecursion IsSound s.indexes

sound_to : (force : List Kept) (moment : ℤ) (s : Catalog) (event : Event) (o : Option (List ℕ)) → AllSound s →
    AllSound (deal_to force moment s event o)
sound_to force moment s event None h = h
sound_to force moment s event (Some name) h =
    all_change_or_insert IsSound index_name name (filled force moment s.next_file (s.counts.placed + 1) (named name event))
    (fresh_index name) s.indexes h
    (λ i p. sound_placed i.name (limits force i.name) s.next_file (named name event) (s.counts.placed + 1) moment i.slots p) tt

sound_deal : (force : List Kept) (moment : ℤ) (s : Catalog) (o : Routed) → AllSound s → AllSound (deal force moment s o)
sound_deal force moment s (To event) h = sound_to force moment s event (home force event.index) h
sound_deal force moment s Null h = h

sound_turns : (force : List Kept) (moment : ℤ) (file : ℕ) (is : List Index) → AllByRecursion IsSound is →
    AllByRecursion IsSound (all_turned force moment file is)
sound_turns force moment file [] h = tt
sound_turns force moment file (i ∷ is) h =
    (sound_turned (turn_in force moment i) 0 file i.slots h.0, sound_turns force moment (file + files_taken force moment i) is h.1)

pub keeps_sound : Keeps AllSound
keeps_sound = record {
  deals = sound_deal;
  ticks = λ force moment s h. sound_turns force moment s.next_file s.indexes h;
  rolls = λ index s h. all_change IsSound index_name index closed_index s.indexes h (λ i p. sound_closed i.name 0 i.slots p);
  thaws = λ index id s h. all_change IsSound index_name index (thawed_index id s.next_file) s.indexes h
      (λ i p. sound_thawed i.name id s.next_file i.slots p);
}

pub sound_after : (choose : Chooser) (h : List TimedCommand) → AllSound (state_after choose h).catalog
sound_after choose h = keeps_after AllSound keeps_sound choose empty h tt
