use Rattle.std.proofs.Common.{ℕ, List, ◌+◌, map, take, drop, subst}
use Rattle.ix_base.specs.declared.events.ChannelMeta.{ChannelMeta}
use Rattle.ix_bounds.specs.Totals.{AreChannels}
use Rattle.ix_state.specs.declared.state.OpenChannel.{OpenChannel}
use Rattle.ix_apply.specs.Seen.{named}
use Rattle.ix_apply.proofs.Measured.{named_remove, rest}
use Rattle.ix_apply.proofs.measuring.without_one.Goals as goal

pub returns : goal.returns
returns c =
    let xs = c.args.channels.now in
    let at = c.args.at in
    subst (λ (l : List (List ℕ × ChannelMeta)). AreChannels l c.and.result) (named_remove xs at)
    (c.and.ensures (map named (take at xs)) (map named (drop (at + 1) xs)) c.sum_of-before.ensures
    (subst (λ (l : List OpenChannel). AreChannels (map named l) c.sum_of-behind.result) (rest xs (at + 1)) c.sum_of-behind.ensures))
