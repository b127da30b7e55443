-- What is made for a command that may be accepted.
use Rattle.std.proofs.Common.{ℕ, List, sym, subst}
use Rattle.std.specs.Prelude.{Some}
use Rattle.ix_model.specs.Bounds.{KeepsBounds, HasNumber, come_to}
use Rattle.ix_model.specs.Given.{Chooser}
use Rattle.ix_model.specs.Step.{state_after}
use Rattle.ix_model.specs.declared.commands.TimedCommand.{TimedCommand}
use Rattle.ix_replay.specs.Fits.{fits}
use Rattle.ix_state.specs.declared.state.StoreState.{StoreState}
use Rattle.ix_store.specs.Making.{IsMade, with_order}
use Rattle.ix_recovery.proofs.Within.{within_fits}
use Rattle.ix_apply.specs.Made.{MayFollow, IsPair}
use Rattle.ix_apply.specs.Next.{IsReady}
use Rattle.ix_apply.specs.declared.next.Next.{Next}
use Rattle.ix_apply.specs.declared.prepared.PreparedCommand.{PreparedCommand}
use Rattle.ix_apply.proofs.Pairing.{come}

pub made_is : (choose : Chooser) (history : List TimedCommand) (order : TimedCommand) (held : StoreState) (drawn weight : ℕ)
    (pair : PreparedCommand) → MayFollow choose history order held →
    HasNumber drawn order → IsPair choose history order held pair → KeepsBounds (come_to choose (state_after choose history) order) →
    IsMade (λ (c : Chooser) (h : List TimedCommand) (next : Next). IsReady c h held next) fits choose history order drawn
    (record {
      next = pair.step.next;
      first = pair.first;
      second = pair.step.draft;
      done_with = pair.step.done_with;
      moved = pair.step.moved;
      weight = weight;
    })
made_is choose history order held drawn weight pair f number p bounds = record {
  allowed = record { no_cause = f.no_cause; bounds = bounds; number = number };
  ready = p.ready bounds;
  ticks = p.ticks;
  leads = p.leads;
  done = p.done;
  let_go = p.let_go;
  moved = p.many;
  fit = λ run files small done. within_fits choose (with_order choose history order) run (Some files) small done
      (subst KeepsBounds (sym (come choose history order)) bounds);
}
