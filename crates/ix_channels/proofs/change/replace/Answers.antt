use Rattle.std.proofs.Common.{◌<◌, ◌∙◌, ap, set, length, arith}
use Rattle.ix_catalog.proofs.Updates.{set_update}
use Rattle.ix_channels.specs.Changes.{with_channel}
use Rattle.ix_state.specs.declared.state.OpenChannel.{OpenChannel}
use Rattle.ix_channels.proofs.change.replace.Goals as goal

pub returns : goal.returns
returns c =
    let xs = c.args.channels.now.items in
    let f = with_channel c.args.channel in
    let o = c.index_mut-open.result.now in
    let within : c.args.at < length xs = omega (arith, c.args.channels.now.ok.0, c.requires) in
    ap (λ (x : OpenChannel). set xs c.args.at (f x)) c.index_mut-open.ensures.value
    ∙ set_update c.args.at f xs o within
