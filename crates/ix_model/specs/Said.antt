-- What the items of a command say: how they lead from the book before it to the book behind it.
use Rattle.std.specs.Prelude.{◌≡◌, ◌≢◌, ◌==◌, ◌||◌, ℕ, Bool, true, false, List, [], ◌∷◌, ◌++◌, map, length, drop, Option, option_to_list}
use Rattle.std.specs.List.{AllByRecursion}
use Rattle.std.specs.Option.{option_map}
use Rattle.ix_base.specs.declared.events.Spot.{Spot}
use Rattle.ix_manifest.specs.Book.{Name, NamedItems, NoneUnder, name_of, named, replay}
use Rattle.ix_items.specs.declared.items.Entry.{Entry}
use Rattle.ix_items.specs.declared.items.Item.{Item}
use Rattle.ix_items.specs.declared.items.Item.TheVariants as items
use Rattle.ix_model.specs.Given.{Chooser}
use Rattle.ix_model.specs.State.{State, ChannelHistory, life_in}
use Rattle.ix_model.specs.Step.{state_after}
use Rattle.ix_model.specs.declared.commands.Command.{Command}
use Rattle.ix_model.specs.declared.commands.Command.TheVariants.{Begin, Block, End, Tick, Roll, Thaw, Configure, Direct}
use Rattle.ix_model.specs.declared.commands.TimedCommand.{TimedCommand}
use Rattle.ix_catalog.specs.Changes.{is_shelf_kind, changes}
use Rattle.ix_model.specs.Books.{life_item}
use Rattle.ix_model.specs.Shelved.{shelved}
use Rattle.ix_model.specs.Snap.{snapshot_of}

-- The items are of these kinds, and under each name of these they lead from the one book to what
-- stands in the other.
pub record Says (kinds : ℕ → Bool) (said : List Item) (from to : NamedItems) : Type 0 where
  pub own : AllByRecursion (λ (x : Item). kinds (name_of x).kind ≡ true) said
  pub lead : (name : Name) → kinds name.kind ≡ true → to name ≡ replay said from name

-- items of all kinds of which anything changes lead from the one book to the other
abbrev pub SaysLead : Type 0
SaysLead = (kinds : ℕ → Bool) (said : List Item) (from to : NamedItems) → Says kinds said from to →
    ((name : Name) → kinds name.kind ≡ false → to name ≡ from name) → to ≡ replay said from

-- items of some kinds, and behind them items of others
abbrev pub SaysJoin : Type 0
SaysJoin = (k l : ℕ → Bool) (a b : List Item) (from to : NamedItems) → ((kind : ℕ) → k kind ≡ true → l kind ≡ false) →
    Says k a from to → Says l b from to → Says (λ (kind : ℕ). k kind || l kind) (a ++ b) from to

-- ---- buckets, the ledger, the counts, and the numbers of buckets and files

-- the entries that a command puts behind the ledger
abbrev pub new_entries : State → State → List Entry
new_entries m later = drop (length m.catalog.ledger) later.catalog.ledger

-- what changed on the shelves
abbrev pub shelf_items : State → State → List Item
shelf_items m later =
    changes later.catalog.ledger (new_entries m later) (shelved m.force m.catalog) (shelved later.force later.catalog)

abbrev pub ShelvesAreSaid : Type 0
ShelvesAreSaid = (choose : Chooser) (history : List TimedCommand) (order : TimedCommand) →
    Says is_shelf_kind (shelf_items (state_after choose history) (state_after choose (history ++ order ∷ [])))
    (snapshot_of choose history).book (snapshot_of choose (history ++ order ∷ [])).book

-- ---- channels

abbrev pub is_channel_kind : ℕ → Bool
is_channel_kind kind = 4 == kind

-- the channel of a name, where it is open
abbrev pub channel_item : State → List ℕ → List Item
channel_item m name = option_to_list (option_map life_item (life_in m name))

abbrev pub ended_item : ChannelHistory → Item
ended_item life = items.Ended life.name

-- A channel that begins or goes on is said as it then is, with what is carried of it; one that ends
-- is said to have ended. A Configure ends all.
abbrev pub channel_items : State → Command → State → List Item
channel_items m (Begin channel meta) later = channel_item later channel
channel_items m (Block channel bytes spot) later = channel_item later channel
channel_items m (End channel) later = items.Ended channel ∷ []
channel_items m Tick later = []
channel_items m (Roll index) later = []
channel_items m (Thaw index id) later = []
channel_items m (Configure config) later = map ended_item m.channels
channel_items m (Direct events) later = []

abbrev pub ChannelsAreSaid : Type 0
ChannelsAreSaid = (choose : Chooser) (history : List TimedCommand) (order : TimedCommand) →
    Says is_channel_kind (channel_items (state_after choose history) order.command (state_after choose (history ++ order ∷ [])))
    (snapshot_of choose history).book (snapshot_of choose (history ++ order ∷ [])).book

-- ---- spots, settings and moments

abbrev pub is_spot_kind : ℕ → Bool
is_spot_kind kind = 10 == kind

abbrev pub spot_item : Option Spot → List Item
spot_item spot = option_to_list (option_map items.Spot spot)

abbrev pub spot_items : Command → List Item
spot_items (Begin channel meta) = []
spot_items (Block channel bytes spot) = spot_item spot
spot_items (End channel) = []
spot_items Tick = []
spot_items (Roll index) = []
spot_items (Thaw index id) = []
spot_items (Configure config) = []
spot_items (Direct events) = []

abbrev pub SpotsAreSaid : Type 0
SpotsAreSaid = (choose : Chooser) (history : List TimedCommand) (order : TimedCommand) →
    Says is_spot_kind (spot_items order.command) (snapshot_of choose history).book (snapshot_of choose (history ++ order ∷ [])).book

abbrev pub is_settings_kind : ℕ → Bool
is_settings_kind kind = 1 == kind

abbrev pub settings_items : Command → List Item
settings_items (Begin channel meta) = []
settings_items (Block channel bytes spot) = []
settings_items (End channel) = []
settings_items Tick = []
settings_items (Roll index) = []
settings_items (Thaw index id) = []
settings_items (Configure config) = items.Settings config.kept ∷ []
settings_items (Direct events) = []

abbrev pub SettingsAreSaid : Type 0
SettingsAreSaid = (choose : Chooser) (history : List TimedCommand) (order : TimedCommand) →
    Says is_settings_kind (settings_items order.command) (snapshot_of choose history).book (snapshot_of choose (history ++ order ∷ [])).book

abbrev pub is_moment_kind : ℕ → Bool
is_moment_kind kind = 3 == kind

-- each command has its moment
abbrev pub moment_items : State → List Item
moment_items later = items.Moments later.last later.tick ∷ []

abbrev pub MomentsAreSaid : Type 0
MomentsAreSaid = (choose : Chooser) (history : List TimedCommand) (order : TimedCommand) →
    Says is_moment_kind (moment_items (state_after choose (history ++ order ∷ []))) (snapshot_of choose history).book
    (snapshot_of choose (history ++ order ∷ [])).book

-- ---- all of them

abbrev pub command_items : State → Command → State → List Item
command_items m command later =
    shelf_items m later ++ (channel_items m command later ++ (spot_items command ++ (settings_items command ++ moment_items later)))

-- the items of a command lead from what stood in the log's book to what then stands there
abbrev pub BooksLead : Type 0
BooksLead = (choose : Chooser) (history : List TimedCommand) (order : TimedCommand) →
    (snapshot_of choose (history ++ order ∷ [])).book
    ≡ replay (command_items (state_after choose history) order.command (state_after choose (history ++ order ∷ [])))
    (snapshot_of choose history).book

-- the same under each name but those of the run and of the last removals, of which no command says
-- anything
abbrev pub AreAlike : NamedItems → NamedItems → Type 0
AreAlike a b = (name : Name) → name.kind ≢ 2 → name.kind ≢ 12 → a name ≡ b name

-- so they do in a log in which a run and last removals stand besides
abbrev pub BooksLeadAlike : Type 0
BooksLeadAlike = (choose : Chooser) (history : List TimedCommand) (order : TimedCommand) (book : NamedItems) →
    AreAlike (snapshot_of choose history).book book →
    AreAlike (snapshot_of choose (history ++ order ∷ [])).book
    (replay (command_items (state_after choose history) order.command (state_after choose (history ++ order ∷ []))) book)

-- and they leave these as they are
abbrev pub RunsAreLeft : Type 0
RunsAreLeft = (m later : State) (command : Command) (text : List ℕ) (number : ℕ) →
    NoneUnder (named 2 text number) (command_items m command later) × NoneUnder (named 12 text number) (command_items m command later)
