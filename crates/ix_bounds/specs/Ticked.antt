-- What a Tick leaves to the command that it comes before.
use Rattle.std.specs.Prelude.{◌≡◌, ◌≤◌, ◌<◌, ◌^◌, true, List, [], ◌∷◌, ◌++◌}
use Rattle.ix_model.specs.Bounds.{KeepsBounds}
use Rattle.ix_model.specs.Given.{Chooser}
use Rattle.ix_model.specs.Judged.{judged, waits_for_tick}
use Rattle.ix_model.specs.State.{State}
use Rattle.ix_model.specs.Step.{state_after, effective}
use Rattle.ix_model.specs.declared.commands.Command.TheVariants.{Tick}
use Rattle.ix_model.specs.declared.commands.TimedCommand.{TimedCommand}

-- the Tick that comes before a command, at its moment
abbrev pub tick_for : TimedCommand → TimedCommand
tick_for order = record { command = Tick; moment = order.moment }

pub record IsTicked (order : TimedCommand) (m later : State) : Type 0 where
  pub force : later.force ≡ m.force
  pub channels : later.channels ≡ m.channels
  pub spots : later.spots ≡ m.spots
  pub judgement : waits_for_tick order.command ≡ true → judged later order.command ≡ judged m order.command
  pub moment : effective later.last order.moment ≡ effective m.last order.moment
  pub files : m.catalog.next_file ≤ later.catalog.next_file
  pub bounds : KeepsBounds m → later.catalog.next_file < 2 ^ 63 → KeepsBounds later

abbrev pub TicksComeFirst : Type 0
TicksComeFirst = (choose : Chooser) (history : List TimedCommand) (order : TimedCommand) →
    IsTicked order (state_after choose history) (state_after choose (history ++ tick_for order ∷ []))
