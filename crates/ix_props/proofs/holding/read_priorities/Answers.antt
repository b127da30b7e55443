use Rattle.std.proofs.Common.{sym, ◌∙◌, arith, drop}
use Rattle.ix_props.specs.Ranking.{found}
use Rattle.ix_props.proofs.FindLemmas.{dropped, priority_there, priority_skip}
use Rattle.ix_props.proofs.holding.read_priorities.Goals as goal

pub loop-at-preserved-in-Continue-1 : goal.loop-at-preserved-in-Continue-1
loop-at-preserved-in-Continue-1 c =
    let e = c.index-entries-at.result in
    record {
      within = omega arith;
      so_far = λ s.
          rw (dropped c.args.entries.now c.loop-at.at e _ (omega arith) c.loop-at.invariant.within c.index-entries-at.is)
          (priority_there e (drop c.loop-at.at c.args.entries.now) (found c.loop-at.priorities) (found c.put_priority.new.priorities) _ _
          (rw c.as_slice.ensures at (sym c.is_key.ensures ∙ c.if-is_key.true)) c.as_slice-then-is_key.ensures c.number_of-priority.ensures
          c.in_ok-put_priority.ensures c.loop-at.invariant.so_far s);
    }

pub loop-at-preserved : goal.loop-at-preserved
loop-at-preserved c =
    let e = c.index-entries-at.result in
    record {
      within = omega arith;
      so_far = λ s.
          rw (dropped c.args.entries.now c.loop-at.at e _ (omega arith) c.loop-at.invariant.within c.index-entries-at.is)
          (priority_skip e (drop c.loop-at.at c.args.entries.now) (found c.loop-at.priorities)
          (rw c.as_slice.ensures at (sym c.is_key.ensures ∙ c.if-is_key.false)) c.loop-at.invariant.so_far s);
    }
