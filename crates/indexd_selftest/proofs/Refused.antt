-- A command that has no other cause to be refused is refused for want of memory, or for want of
-- room in the store.
use Rattle.std.proofs.Common.{◌≡◌, ◌∙◌, ℕ, false, refl, sym, Option, Some, None}
use Rattle.ix_model.specs.Bounds.{IsFull, IsRefused}
use Rattle.ix_model.specs.Given.{Chooser}
use Rattle.ix_model.specs.Judged.{judged}
use Rattle.ix_model.specs.State.{State}
use Rattle.ix_model.specs.declared.answers.Refusal.{Refusal}
use Rattle.ix_model.specs.declared.answers.Refusal.TheVariants as refusals
use Rattle.ix_model.specs.declared.commands.TimedCommand.{TimedCommand}

no_cause : (cause : Option Refusal) (refusal : Refusal) → cause ≡ None → cause ≡ Some refusal → ⊥
no_cause cause refusal none some = let e : None ≡ Some refusal = sym none ∙ some in cc

module _ (choose : Chooser) (drawn : ℕ) (m : State) (order : TimedCommand) (none : judged m order.command ≡ None) where
  pub refused_full : (refusal : Refusal) → (refusal ≡ refusals.NoMemory → ⊥) → IsRefused choose false drawn m order refusal →
      IsFull choose false drawn m order
  refused_full refusals.Closed other why = absurd (no_cause (judged m order.command) refusals.Closed none why)
  refused_full refusals.NoChannel other why = absurd (no_cause (judged m order.command) refusals.NoChannel none why)
  refused_full refusals.ChannelOpen other why = absurd (no_cause (judged m order.command) refusals.ChannelOpen none why)
  refused_full refusals.UnknownIndex other why = absurd (no_cause (judged m order.command) refusals.UnknownIndex none why)
  refused_full refusals.NoBucket other why = absurd (no_cause (judged m order.command) refusals.NoBucket none why)
  refused_full refusals.NotArchived other why = absurd (no_cause (judged m order.command) refusals.NotArchived none why)
  refused_full refusals.AlreadyThawed other why = absurd (no_cause (judged m order.command) refusals.AlreadyThawed none why)
  refused_full refusals.TooManyChannels other why = absurd (no_cause (judged m order.command) refusals.TooManyChannels none why)
  refused_full refusals.Full other why = why
  refused_full refusals.NoMemory other why = absurd (other refl)
