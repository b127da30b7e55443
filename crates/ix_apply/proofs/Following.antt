-- A history with a command more is none without commands.
use Rattle.std.proofs.Common.{◌≡◌, ℕ, Bool, true, false, List, [], ◌∷◌, ◌++◌, refl}
use Rattle.std.specs.Prelude.{if◌then◌else◌}
use Rattle.ix_model.specs.Given.{Chooser}
use Rattle.ix_model.specs.Judged.{needs_tick}
use Rattle.ix_model.specs.Step.{state_after}
use Rattle.ix_model.specs.declared.commands.Command.TheVariants.{Tick}
use Rattle.ix_model.specs.declared.commands.TimedCommand.{TimedCommand}
use Rattle.ix_model.proofs.Named.{by_test}
use Rattle.ix_recovery.specs.First.{is_first}
use Rattle.ix_replay.specs.Fits.{fits}
use Rattle.ix_state.specs.declared.state.StoreState.{StoreState}
use Rattle.ix_apply.specs.Next.{IsReady}
use Rattle.ix_apply.specs.declared.next.Next.{Next}
use Rattle.ix_store.specs.Making.{IsMade, with_order}
use Rattle.ix_store.specs.declared.memory.Made.{Made}
use Rattle.ix_apply.specs.Standing.{WillStand}

later : (choose : Chooser) (history : List TimedCommand) (order : TimedCommand) → is_first (with_order choose history order) ≡ false
later choose [] order = by (needs_tick (state_after choose []) order)
  where
    by : (b : Bool) → is_first ([] ++ (if b then record { command = Tick; moment = order.moment } ∷ order ∷ [] else order ∷ [])) ≡ false
    by true = refl
    by false = refl
later choose (o ∷ history) order = refl

pub follows : (choose : Chooser) (history : List TimedCommand) (order : TimedCommand) (drawn : ℕ) (held : StoreState) (made : Made Next) →
    IsMade (λ (c : Chooser) (h : List TimedCommand) (next : Next). IsReady c h held next) fits choose history order drawn made →
    IsMade (λ (c : Chooser) (h : List TimedCommand) (next : Next). WillStand c h held next) fits choose history order drawn made
follows choose history order drawn held made m = record {
  allowed = m.allowed;
  ready = record { ready = m.ready; later = later choose history order };
  ticks = m.ticks;
  leads = m.leads;
  done = m.done;
  let_go = m.let_go;
  moved = m.moved;
  fit = m.fit;
}
