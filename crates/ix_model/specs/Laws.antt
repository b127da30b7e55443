-- Laws of the machine, over every history of commands.
use Rattle.std.specs.Prelude.{◌≡◌, ◌≢◌, ◌+◌, ◌≤ℤ◌, ℕ, ℤ, pos, List, ◌++◌, length, Option, None}
use Rattle.std.specs.List.{AllByRecursion, flat_map, count_by}
use Rattle.ix_base.specs.Clocks.{latest}
use Rattle.ix_base.specs.declared.events.ChannelMeta.{ChannelMeta}
use Rattle.ix_base.specs.declared.events.Spot.{Spot}
use Rattle.ix_pattern.specs.Piece.{IsSound as IsPatternSound}
use Rattle.ix_pattern.specs.Rows.{tree}
use Rattle.ix_props.specs.Settings.{AreUsable}
use Rattle.ix_model.specs.Balance.{IsBalanced, IsBalancedView}
use Rattle.ix_life.specs.Placing.{is_open}
use Rattle.ix_model.specs.Buckets.{buckets}
use Rattle.ix_model.specs.Dealt.{dealt, contents, AreSplit}
use Rattle.ix_model.specs.Files.{Renews, AreApart}
use Rattle.ix_model.specs.Followed.{AreFollowed}
use Rattle.ix_model.specs.Given.{Chooser}
use Rattle.ix_model.specs.Judged.{moved}
use Rattle.ix_model.specs.Ledger.{IsWhole, AreBefore, GrowsInOrder}
use Rattle.ix_catalog.specs.Lists.{AreAscending}
use Rattle.ix_model.specs.Lives.{said, Spares, Joins}
use Rattle.ix_model.specs.Shown.{view, whole_ledger}
use Rattle.ix_model.specs.State.{State, ChannelHistory, index_name, life_name, spot_path, life_in, slots_in}
use Rattle.ix_model.specs.Step.{outcomes, begun, stepped, step, state_after}
use Rattle.ix_model.specs.Sums.{IsSound}
use Rattle.ix_model.specs.declared.commands.Command.{Command}
use Rattle.ix_model.specs.declared.commands.Command.TheVariants.{Begin, Block, End, Tick, Roll, Configure}
use Rattle.ix_model.specs.declared.commands.Config.{Config}
use Rattle.ix_model.specs.declared.commands.TimedCommand.{TimedCommand}

-- nothing is lost or made
abbrev pub Balances : Type 0
Balances = (choose : Chooser) (history : List TimedCommand) → IsBalanced (state_after choose history).catalog

abbrev pub ViewsBalance : Type 0
ViewsBalance = (choose : Chooser) (history : List TimedCommand) → IsBalancedView (view (state_after choose history))

-- a Tick adds as many entries to the ledger as it is said to freeze
abbrev pub TicksAreCounted : Type 0
TicksAreCounted =
    (choose : Chooser) (history : List TimedCommand) (moment : ℤ) →
    let m : State = state_after choose history in
    length (whole_ledger (stepped choose m Tick moment)) ≡ length (whole_ledger m) + moved m Tick moment

-- what buckets and entries say of their events are the sums and the bounds of these
abbrev pub FieldsAreSums : Type 0
FieldsAreSums = (choose : Chooser) (history : List TimedCommand) → AllByRecursion IsSound (state_after choose history).catalog.indexes

-- what the commands of one life of a channel add, one behind the other, is what is settled of its
-- whole stream, for a channel whose settings can be used
abbrev pub LivesJoin : Type 0
LivesJoin =
    (choose : Chooser) (before history : List TimedCommand) (name : List ℕ) (meta : ChannelMeta) (moment : ℤ) →
    let m : State = state_after choose before in
    let life : ChannelHistory = begun choose m.force name meta in
    life_in m name ≡ None → IsPatternSound (tree life.settings.breaker.rows) → AreUsable life.settings →
    AllByRecursion (Spares name) history →
    Joins choose (step choose m (record { command = Begin name meta; moment = moment })) life history

-- each event that is dealt to an index lies in one of its buckets, also once this is frozen, and
-- each bucket has those that went into it in the order in which they were dealt
abbrev pub EventsAreDealt : Type 0
EventsAreDealt =
    (choose : Chooser) (history : List TimedCommand) (name : List ℕ) →
    AreSplit (dealt choose history name) (contents (slots_in (state_after choose history).catalog.indexes name))

-- files have numbers of their own, and no number is used again, whatever comes
abbrev pub FilesAreApart : Type 0
FilesAreApart = (choose : Chooser) (history : List TimedCommand) → AreApart (state_after choose history).catalog

abbrev pub FilesAreNew : Type 0
FilesAreNew = (choose : Chooser) (before later : List TimedCommand) →
    Renews (state_after choose before).catalog (state_after choose (before ++ later)).catalog

-- whatever comes, each bucket keeps its number in its index, its events only grow, and those of a
-- frozen one stay
abbrev pub BucketsAreFollowed : Type 0
BucketsAreFollowed =
    (choose : Chooser) (before later : List TimedCommand) (name : List ℕ) →
    AreFollowed (slots_in (state_after choose before).catalog.indexes name)
    (slots_in (state_after choose (before ++ later)).catalog.indexes name)

-- the ledger has the entries of all frozen buckets, each bucket's once, and no other
abbrev pub LedgersAreWhole : Type 0
LedgersAreWhole = (choose : Chooser) (history : List TimedCommand) → IsWhole (state_after choose history)

-- whatever comes, its entries keep their places, and more come behind them alone
abbrev pub LedgersGrow : Type 0
LedgersGrow = (choose : Chooser) (before later : List TimedCommand) →
    AreBefore (whole_ledger (state_after choose before)) (whole_ledger (state_after choose (before ++ later)))

-- a Tick puts its entries behind the others in the order in which its turns freeze
abbrev pub TicksKeepOrder : Type 0
TicksKeepOrder =
    (choose : Chooser) (history : List TimedCommand) (moment : ℤ) →
    let m : State = state_after choose history in
    GrowsInOrder m (stepped choose m Tick moment) moment

-- no other command adds to it
abbrev pub TicksAloneFreeze : Type 0
TicksAloneFreeze =
    (choose : Chooser) (m : State) (command : Command) (moment : ℤ) → command ≢ Tick →
    whole_ledger (stepped choose m command moment) ≡ whole_ledger m

-- channels, indexes and spots stand by their names, each name once
pub record AreInOrder (m : State) : Type 0 where
  pub channels : AreAscending life_name m.channels
  pub indexes : AreAscending index_name m.catalog.indexes
  pub spots : AreAscending spot_path m.spots

abbrev pub StatesAreInOrder : Type 0
StatesAreInOrder = (choose : Chooser) (history : List TimedCommand) → AreInOrder (state_after choose history)

-- what a command adds is what it adds for its channel, and with a Configure for each open one, by
-- their names
pub record AreSaid (choose : Chooser) (m : State) (moment : ℤ) : Type 0 where
  pub block : (channel bytes : List ℕ) (spot : Option Spot) →
      outcomes choose m (Block channel bytes spot) moment ≡ said m (Block channel bytes spot) moment channel
  pub ended : (channel : List ℕ) → outcomes choose m (End channel) moment ≡ said m (End channel) moment channel
  pub configured : (config : Config) →
      outcomes choose m (Configure config) moment ≡ flat_map (λ (l : ChannelHistory). said m (Configure config) moment l.name) m.channels

abbrev pub OutcomesAreSaid : Type 0
OutcomesAreSaid = (choose : Chooser) (history : List TimedCommand) (moment : ℤ) → AreSaid choose (state_after choose history) moment

-- moments keep their range, and never fall
pub record AreMoments (m : State) : Type 0 where
  pub from_start : pos 0 ≤ℤ m.last
  pub to_end : m.last ≤ℤ latest
  pub tick_from_start : pos 0 ≤ℤ m.tick
  pub tick_before : m.tick ≤ℤ m.last

abbrev pub MomentsKeepRange : Type 0
MomentsKeepRange = (choose : Chooser) (history : List TimedCommand) → AreMoments (state_after choose history)

abbrev pub MomentsNeverFall : Type 0
MomentsNeverFall = (choose : Chooser) (before later : List TimedCommand) →
    (state_after choose before).last ≤ℤ (state_after choose (before ++ later)).last

-- a Roll leaves no bucket of its index that takes events
abbrev pub RollsAreWhole : Type 0
RollsAreWhole =
    (choose : Chooser) (history : List TimedCommand) (index : List ℕ) (moment : ℤ) →
    count_by is_open (buckets (slots_in (stepped choose (state_after choose history) (Roll index) moment).catalog.indexes index)) ≡ 0
