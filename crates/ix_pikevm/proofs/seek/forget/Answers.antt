use Rattle.std.proofs.Common.{◌<◌, length, ◌∙◌, ap, arith, set}
use Rattle.ix_pikevm.specs.Seeks.{forgotten}
use Rattle.ix_pikevm.proofs.SeekLemmas.{next-forgot}
use Rattle.ix_pikevm.proofs.seek.forget.Goals as goal

pub loop-i-preserved : goal.loop-i-preserved
loop-i-preserved c =
    let within : c.loop-i.i < length c.args.threads.now.items = omega arith in
    ap (λ t. set c.loop-i.threads.items c.loop-i.i (forgotten t)) c.index_mut.ensures.value
    ∙ next-forgot c.args.threads.now.items c.loop-i.threads.items c.loop-i.i c.index_mut.result.now within c.loop-i.invariant
