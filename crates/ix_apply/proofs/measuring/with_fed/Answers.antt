use Rattle.std.proofs.Common.{ℕ, List, sym, subst}
use Rattle.ix_base.specs.declared.events.ChannelMeta.{ChannelMeta}
use Rattle.ix_bounds.specs.Totals.{AreChannels}
use Rattle.ix_apply.proofs.Measured.{named_same}
use Rattle.ix_apply.proofs.measuring.with_fed.Goals as goal

pub returns : goal.returns
returns c = subst (λ (l : List (List ℕ × ChannelMeta)). AreChannels l c.sum_of.result)
    (sym (named_same c.args._at c.args._channel.now c.args.channels.now)) c.sum_of.ensures
