use Rattle.std.proofs.Common.{refl, arith}
use Rattle.ix_commit.proofs.Cutting.{cut_next, cut_within}
use Rattle.ix_commit.proofs.staged_append.cut_all.Goals as goal

pub index_mut-requires : goal.index_mut-requires
index_mut-requires c =
    let w = cut_within c.loop-i.i c.args.lens.now c.args.parts.now.items c.loop-i.parts.items c.loop-i.invariant c.requires
    c.loop-i-test.true in
    omega (arith, w, c.loop-i.parts.ok)

pub loop-i-preserved : goal.loop-i-preserved
loop-i-preserved c =
    let part = c.index_mut.result.now in
    cut_next c.loop-i.i _ c.args.lens.now c.args.parts.now.items c.loop-i.parts.items part _ c.loop-i.invariant c.requires
    c.loop-i-test.true c.index_mut.ensures.value refl
    (λ i. record { number = part.number; committed = part.committed; staged = c.truncate-in-loop-i.ensures i })
