-- What a store is given for a command that no cause hinders, and why it is given nothing.
use Rattle.std.specs.Prelude.{◌≡◌, ℕ, false, List, None}
use Rattle.ix_model.specs.Bounds.{HasNumber, IsRefused}
use Rattle.ix_model.specs.Given.{Chooser}
use Rattle.ix_model.specs.Judged.{judged}
use Rattle.ix_model.specs.Step.{state_after}
use Rattle.ix_model.specs.declared.answers.Refusal.{Refusal}
use Rattle.ix_model.specs.declared.commands.TimedCommand.{TimedCommand}
use Rattle.ix_replay.specs.Fits.{fits}
use Rattle.ix_state.specs.Held.{Holds}
use Rattle.ix_state.specs.declared.state.StoreState.{StoreState}
use Rattle.ix_apply.specs.Next.{IsReady}
use Rattle.ix_apply.specs.declared.next.Next.{Next}
use Rattle.ix_store.specs.Making.{IsMade}
use Rattle.ix_store.specs.declared.memory.Made.{Made}
use Rattle.ix_apply.specs.Made.{MayFollow}
use Rattle.ix_apply.specs.declared.prepared.PreparedCommand.{PreparedCommand}

-- ---- before it is worked out

-- this is why the command is refused behind each history that the state may hold, in a run that has
-- drawn so many numbers
abbrev pub HindersOrder : TimedCommand → ℕ → StoreState → Refusal → Type 0
HindersOrder order drawn held refusal = (choose : Chooser) (history : List TimedCommand) → Holds choose history held →
    IsRefused choose false drawn (state_after choose history) order refusal

-- no cause hinders it behind such a history, and the run has a number for it
pub record IsFree (order : TimedCommand) (drawn : ℕ) (held : StoreState) : Type 0 where
  pub no_cause : (choose : Chooser) (history : List TimedCommand) → Holds choose history held →
      judged (state_after choose history) order.command ≡ None
  pub number : HasNumber drawn order

-- ---- worked out

-- a pair as a store takes it, with how many bytes the command brings
abbrev pub made_of : PreparedCommand → ℕ → Made Next
made_of pair weight = record {
  next = pair.step.next;
  first = pair.first;
  second = pair.step.draft;
  done_with = pair.step.done_with;
  moved = pair.step.moved;
  weight = weight;
}

-- it is made for each history that the state may hold, in a run that has a number for the command
abbrev pub MakesOrder : TimedCommand → StoreState → Made Next → Type 0
MakesOrder order held made = (choose : Chooser) (history : List TimedCommand) (drawn : ℕ) → MayFollow choose history order held →
    HasNumber drawn order →
    IsMade (λ (c : Chooser) (h : List TimedCommand) (next : Next). IsReady c h held next) fits choose history order drawn made

-- this is why the command is refused behind each such history
abbrev pub RefusesOrder : TimedCommand → StoreState → Refusal → Type 0
RefusesOrder order held refusal = (choose : Chooser) (history : List TimedCommand) (drawn : ℕ) → MayFollow choose history order held →
    IsRefused choose false drawn (state_after choose history) order refusal
