-- The commands of a selftest, and what it prints.
use Rattle.std.specs.Prelude.{◌≡◌, ◌++◌, ℕ, ℤ, pos, List, [], ◌∷◌, map, None, codes, decimal}
use Rattle.ix_base.specs.declared.events.ChannelMeta.{ChannelMeta}
use Rattle.ix_items.specs.declared.items.Kept.{Kept}
use Rattle.ix_state.specs.Configs.{IsConfig}
use Rattle.ix_model.specs.Given.{Chooser}
use Rattle.ix_model.specs.Shown.{view}
use Rattle.ix_model.specs.Step.{state_after}
use Rattle.ix_model.specs.declared.commands.Command.{Command}
use Rattle.ix_model.specs.declared.commands.Command.TheVariants.{Begin, Block, End, Tick, Configure}
use Rattle.ix_model.specs.declared.commands.Config.{Config}
use Rattle.ix_model.specs.declared.commands.TimedCommand.{TimedCommand}
use Rattle.ix_report.specs.Listing.{listing}
use Rattle.ix_run.specs.Giving.{given_all}
use Rattle.indexd_selftest.specs.Blocks.{AreCut}
use Rattle.indexd_selftest.specs.Lines.{stream}

-- 2023-11-14T22:13:20Z, and 100 seconds later, in microseconds since 1970
abbrev pub moment : ℤ
moment = pos 1700000000000000

abbrev pub later : ℤ
later = pos 1700000100000000

-- ---- settings: one stanza of indexes.conf

-- an entry of the stanza `main`
abbrev pub of_main : List ℕ → List ℕ → Kept
of_main key value = record { file = 3; stanza = codes "main"; key = key; value = value }

-- A bucket rolls at 1 MiB, and an index keeps 2 MiB.
abbrev pub settings : List Kept
settings =
    of_main [] [] ∷ of_main (codes "maxDataSize") (codes "1") ∷ of_main (codes "maxTotalDataSizeMB") (codes "2") ∷ []

-- the settings that a store goes by where these are kept
pub record AreInForce (config : Config) : Type 0 where
  pub sound : IsConfig config
  pub kept : config.kept ≡ settings

-- ---- commands

abbrev pub channel : List ℕ
channel = codes "gen"

abbrev pub meta : ChannelMeta
meta = record { host = codes "h"; source = codes "s"; sourcetype = None; index = None }

abbrev pub sent : Command → TimedCommand
sent command = record { command = command; moment = moment }

abbrev pub sent_block : List ℕ → TimedCommand
sent_block block = sent (Block channel block None)

-- turn of housekeeping behind all
abbrev pub turn : TimedCommand
turn = record { command = Tick; moment = later }

-- the channel with its blocks
abbrev pub sent_all : List (List ℕ) → List TimedCommand
sent_all blocks = sent (Begin channel meta) ∷ map sent_block blocks ++ sent (End channel) ∷ []

abbrev pub orders : Config → List (List ℕ) → List TimedCommand
orders config blocks = sent (Configure config) ∷ sent_all blocks ++ turn ∷ []

-- ---- what is printed

abbrev pub first_line : ℕ → ℕ → List ℕ
first_line seed count = codes "selftest " ++ decimal seed ++ codes " " ++ decimal count ++ codes "\n"

-- The text: the first line, and the listing behind the commands, of which the blocks are the lines
-- as the seed cuts them. It is the same for whoever chooses the settings of the channel as the kept
-- settings give them.
pub record IsSummary (is_chooser : Chooser → Type 0) (seed count : ℕ) (text : List ℕ) : Type 0 where
  pub config : Config
  pub in_force : AreInForce config
  pub blocks : List (List ℕ)
  pub cut : AreCut seed (stream count) blocks
  pub text_is : (choose : Chooser) → is_chooser choose →
      text ≡ first_line seed count ++ listing (view (state_after choose (given_all choose [] (orders config blocks))))
