-- What a state in memory shows is what the state of its history shows.
use Rattle.std.proofs.Common.{◌≡◌, ℕ, List, [], ◌∷◌, refl, ap, ◌∙◌}
use Rattle.std.specs.Prelude.{is_some, ◌||◌, bytes_eq}
use Rattle.std.specs.List.{AllZip, list_any}
use Rattle.ix_model.specs.Given.{Chooser}
use Rattle.ix_model.specs.Shown.{view}
use Rattle.ix_model.specs.State.{ChannelHistory, life_name}
use Rattle.ix_model.specs.Step.{state_after}
use Rattle.ix_model.specs.declared.commands.TimedCommand.{TimedCommand}
use Rattle.ix_model.proofs.Named.{by_test}
use Rattle.ix_catalog.specs.Lists.{find}
use Rattle.ix_state.specs.Causes.{has_name}
use Rattle.ix_state.specs.Held.{IsOpen, SeesStorage, shelves_of}
use Rattle.ix_state.specs.declared.state.StoreState.{StoreState}
use Rattle.ix_state.specs.declared.state.OpenChannel.{OpenChannel}
use Rattle.ix_recovery.proofs.Seen.{seen_once}

pub open_is : (lives : List ChannelHistory) (opens : List OpenChannel) (name : List ℕ) → AllZip IsOpen lives opens →
    list_any (has_name name) opens ≡ is_some (find life_name name lives)
open_is [] [] name h = refl
open_is [] (o ∷ os) name h = absurd h
open_is (l ∷ ls) [] name h = absurd h
open_is (l ∷ ls) (o ∷ os) name h =
    ap (λ (n : List ℕ). bytes_eq n name || list_any (has_name name) os) h.0.name
    ∙ by_test (bytes_eq l.name name) (λ t. rw t refl) (λ t. rw t (open_is ls os name h.1))

pub view_is : (choose : Chooser) (history : List TimedCommand) (held : StoreState) →
    SeesStorage (state_after choose history) (shelves_of held) held.view.ledger held.last held.tick →
    held.view ≡ view (state_after choose history)
view_is choose history held s =
    let ledger = seen_once choose history held.view.ledger s.ledger_is s.ledger_rises in
    λ i. record {
      indexes = (s.shelves_are i).indexes;
      ledger = ledger i;
      settled = (s.shelves_are i).settled;
      nulled = (s.shelves_are i).nulled;
      dropped = (s.shelves_are i).dropped;
    }
