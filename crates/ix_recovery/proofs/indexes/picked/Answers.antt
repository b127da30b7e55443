use Rattle.std.proofs.Common.{true, false, ap, sym, ◌∙◌}
use Rattle.std.proofs.lemmas.List.{append-nil}
use Rattle.ix_recovery.proofs.Turns.{picks_more}
use Rattle.ix_recovery.proofs.indexes.picked.Goals.{then-eq+in_ok-push, else-eq}
use Rattle.ix_recovery.proofs.indexes.picked.Goals as goal

pub loop-one-preserved : goal.loop-one-preserved
loop-one-preserved c =
    let old = c.loop-one.buckets.items in
    elim c.if-eq.branch [
      | then-eq+in_ok-push w ↦
          picks_more c.args.index.now c.args.placed.now c.loop-one.one-index c.one-item.result c.as_slice.result.now old
          c.if-eq.buckets.items c.eq.result true
          c.loop-one-test.true c.one-item.is c.loop-one.invariant c.as_slice.ensures c.eq.ensures w.if-eq.true
          (ap (λ v. v.items) w.buckets-is ∙ w.in_ok-push.ensures.items)
      | else-eq w ↦
          picks_more c.args.index.now c.args.placed.now c.loop-one.one-index c.one-item.result c.as_slice.result.now old
          c.if-eq.buckets.items c.eq.result false
          c.loop-one-test.true c.one-item.is c.loop-one.invariant c.as_slice.ensures c.eq.ensures w.if-eq.false
          (ap (λ v. v.items) w.buckets-is ∙ sym (append-nil old))
    ]
