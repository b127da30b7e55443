use Rattle.ix_recovery.proofs.WholeSaid.{channel_said}
use Rattle.ix_recovery.proofs.whole_channels.channel_item.Goals as goal

pub returns : goal.returns
returns c =
    channel_said c.args.found.now c.in_ok-name.name c.in_ok-meta.meta c.in_ok-carry.carry c.in_ok-name.ensures c.in_ok-meta.ensures
    c.in_ok-carry.ensures.spelled c.in_ok-carry.ensures.is_carry
