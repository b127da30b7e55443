-- What is worked out of the same parts is the same.
use Rattle.std.proofs.Common.{◌≡◌, ℤ, List, sym, ap, ◌∙◌, subst}
use Rattle.ix_base.specs.declared.events.Routed.{Routed}
use Rattle.ix_items.specs.declared.items.Item.{Item}
use Rattle.ix_model.specs.Given.{Chooser}
use Rattle.ix_model.specs.declared.commands.Command.{Command}
use Rattle.ix_model.specs.declared.commands.TimedCommand.{TimedCommand}
use Rattle.ix_state.specs.declared.state.StoreState.{StoreState}
use Rattle.ix_channels.specs.Working.{IsWorked}
use Rattle.ix_channels.specs.declared.change.ChannelChange.{ChannelChange}
use Rattle.ix_channels.specs.declared.channel_effect.ChannelEffect.{ChannelEffect}

abbrev made : ChannelChange → List Routed → List Item → ChannelEffect
made change outcomes items = record { change = change; outcomes = outcomes; items = items }

pub alike : (choose : Chooser) (history : List TimedCommand) (command : Command) (moment : ℤ) (held : StoreState) (a b : ChannelEffect) →
    a.change ≡ b.change → a.outcomes ≡ b.outcomes → a.items ≡ b.items →
    IsWorked choose history command moment held b → IsWorked choose history command moment held a
alike choose history command moment held a b change outcomes items works =
    let same : a ≡ b =
    ap (λ (c : ChannelChange). made c a.outcomes a.items) change
    ∙ ap (λ (o : List Routed). made b.change o a.items) outcomes
    ∙ ap (λ (i : List Item). made b.change b.outcomes i) items in
    subst (λ (w : ChannelEffect). IsWorked choose history command moment held w) (sym same) works
