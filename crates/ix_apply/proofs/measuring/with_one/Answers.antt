use Rattle.std.proofs.Common.{ℕ, List, [], ◌∷◌, ◌++◌, map, take, drop, subst}
use Rattle.ix_base.specs.declared.events.ChannelMeta.{ChannelMeta}
use Rattle.ix_bounds.specs.Totals.{AreChannels}
use Rattle.ix_state.specs.declared.state.OpenChannel.{OpenChannel}
use Rattle.ix_apply.specs.Seen.{named}
use Rattle.ix_apply.proofs.Measured.{named_insert, rest}
use Rattle.ix_apply.proofs.measuring.with_one.Goals as goal

pub returns : goal.returns
returns c =
    let xs = c.args.channels.now in
    let at = c.args.at in
    let x = c.args.more.now in
    subst (λ (l : List (List ℕ × ChannelMeta)). AreChannels l c.and-2.result) (named_insert xs at x)
    (c.and-2.ensures (map named (take at xs)) (named x ∷ [] ++ map named (drop at xs)) c.sum_of-before.ensures
    (c.and.ensures (named x ∷ []) (map named (drop at xs))
    (subst (λ (n : List ℕ). AreChannels ((n, x.meta) ∷ []) c.one-one.result) c.as_slice.ensures c.one-one.ensures)
    (subst (λ (l : List OpenChannel). AreChannels (map named l) c.sum_of-behind.result) (rest xs at) c.sum_of-behind.ensures)))
