use Rattle.std.proofs.Common.{ℕ, List, [], ◌∷◌, ◌++◌, map, take, ap, sym, ◌∙◌, subst}
use Rattle.std.proofs.lemmas.List.{map-append, take_all, take_more}
use Rattle.ix_base.specs.declared.events.ChannelMeta.{ChannelMeta}
use Rattle.ix_bounds.specs.Totals.{AreChannels}
use Rattle.ix_state.specs.declared.state.OpenChannel.{OpenChannel}
use Rattle.ix_apply.specs.Seen.{named}
use Rattle.ix_apply.proofs.measuring.sum_of.Goals as goal

pub loop-one-preserved : goal.loop-one-preserved
loop-one-preserved c =
    let xs = c.args.channels.now in
    let i = c.loop-one.one-index in
    let x = c.one-item.result in
    subst (λ (l : List (List ℕ × ChannelMeta)). AreChannels l c.and-sum.result)
    (sym (map-append named (take i xs) (x ∷ [])) ∙ ap (λ (l : List OpenChannel). map named l)
    (ap (λ (y : OpenChannel). take i xs ++ y ∷ []) c.one-item.is ∙ sym (take_more xs i x c.loop-one-test.true)))
    (c.and-sum.ensures (map named (take i xs)) (named x ∷ []) c.loop-one.invariant
    (subst (λ (n : List ℕ). AreChannels ((n, x.meta) ∷ []) c.one.result) c.as_slice.ensures c.one.ensures))

pub returns : goal.returns
returns c = subst (λ (l : List OpenChannel). AreChannels (map named l) c.loop-one.sum)
    (take_all c.loop-one.one-index c.args.channels.now c.loop-one-test.false) c.loop-one.invariant
