-- What a state in memory stands for.
use Rattle.std.specs.Prelude.{◌≡◌, Bool, true, false, List}
use Rattle.std.specs.List.{list_all}
use Rattle.ix_model.specs.Given.{Chooser}
use Rattle.ix_model.specs.declared.commands.TimedCommand.{TimedCommand}
use Rattle.ix_recovery.specs.First.{is_first}
use Rattle.ix_state.specs.Held.{Holds}
use Rattle.ix_state.specs.declared.state.StoreState.{StoreState}
use Rattle.ix_apply.specs.Next.{IsReady}
use Rattle.ix_apply.specs.declared.next.Next.{Next}

-- It is that of a history, and it is known whether that has a command.
pub record StateRepresents (choose : Chooser) (history : List TimedCommand) (held : StoreState) (fresh : Bool) : Type 0 where
  pub state : Holds choose history held
  pub first : is_first history ≡ fresh

-- It will be that of a history that has one.
pub record WillStand (choose : Chooser) (history : List TimedCommand) (held : StoreState) (next : Next) : Type 0 where
  pub ready : IsReady choose history held next
  pub later : is_first history ≡ false
