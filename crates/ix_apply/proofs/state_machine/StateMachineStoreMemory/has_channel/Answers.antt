use Rattle.std.proofs.Common.{◌∙◌, List, ap}
use Rattle.std.specs.List.{list_any}
use Rattle.ix_model.specs.Step.{state_after}
use Rattle.ix_state.specs.Causes.{has_name}
use Rattle.ix_state.specs.declared.state.OpenChannel.{OpenChannel}
use Rattle.ix_apply.proofs.Opened.{open_is}
use Rattle.ix_apply.proofs.state_machine.StateMachineStoreMemory.has_channel.Goals as goal

pub returns : goal.returns
returns c = λ choose history h.
    c.has_open.ensures ∙ (ap (λ (opens : List OpenChannel). list_any (has_name c.args.channel.now) opens) c.as_slice.ensures.value
    ∙ open_is (state_after choose history).channels c.args.self.now.held.channels.items c.args.channel.now h.state.channels.channels)
