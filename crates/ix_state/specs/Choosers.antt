-- Laws of the settings that are chosen for channels. Histories are spoken of over a choice of
-- settings, which is a parameter; these say that there is one, and what it is good for.
use Rattle.std.specs.Prelude.{◌≡◌, ℕ, ℤ, List, None}
use Rattle.std.specs.List.{AllByRecursion}
use Rattle.ix_base.specs.declared.events.ChannelMeta.{ChannelMeta}
use Rattle.ix_state.specs.Configs.{IsChooser}
use Rattle.ix_state.specs.Taken.{AreGiven}
use Rattle.ix_model.specs.Given.{Chooser}
use Rattle.ix_model.specs.Lives.{Spares, Joins}
use Rattle.ix_model.specs.State.{State, life_in}
use Rattle.ix_model.specs.Step.{begun, step, state_after}
use Rattle.ix_model.specs.declared.commands.Command.TheVariants.{Begin}
use Rattle.ix_model.specs.declared.commands.TimedCommand.{TimedCommand}
use Rattle.ix_props.specs.Same.{CanCut}
use Rattle.ix_props.specs.Settings.{AreSettings}
use Rattle.ix_props.specs.declared.props.PropsEntry.{PropsEntry}
use Rattle.ix_props.specs.declared.settings.Settings.{Settings}

-- there are settings for every channel, whatever entries of props.conf were read, and wherever the
-- bytes come from
abbrev pub SettingsExist : Type 0
SettingsExist = (entries : List PropsEntry) (meta : ChannelMeta) → (s : Settings) × AreSettings entries meta s

-- there is a chooser: one choice, for all that may be kept
abbrev pub ChoosersExist : Type 0
ChoosersExist = (choose : Chooser) × IsChooser choose

-- whatever commands came, a channel can be cut by the settings that are chosen for it
abbrev pub ChosenCanCut : Type 0
ChosenCanCut =
    (choose : Chooser) (history : List TimedCommand) (meta : ChannelMeta) → IsChooser choose → AreGiven history →
    CanCut (choose (state_after choose history).force meta)

-- and what the commands of its life add, one behind the other, is what is settled of its whole
-- stream
abbrev pub ChosenLivesJoin : Type 0
ChosenLivesJoin =
    (choose : Chooser) (before history : List TimedCommand) (name : List ℕ) (meta : ChannelMeta) (moment : ℤ) → IsChooser choose →
    AreGiven before →
    let m : State = state_after choose before in
    life_in m name ≡ None → AllByRecursion (Spares name) history →
    Joins choose (step choose m (record { command = Begin name meta; moment = moment })) (begun choose m.force name meta) history
