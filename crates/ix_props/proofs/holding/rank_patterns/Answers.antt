use Rattle.std.proofs.Common.{sym, ◌∙◌, arith, drop, subst}
use Rattle.ix_props.specs.Ranking.{found, IsRankBy, AreRanks}
use Rattle.ix_props.proofs.FindLemmas.{dropped, none_dropped}
use Rattle.ix_props.proofs.RankLemmas.{ranks-other, ranks-put, ranks-left, stated_here}
use Rattle.ix_props.proofs.holding.rank_patterns.Goals as goal

pub loop-at-preserved-in-Continue-branch-4 : goal.loop-at-preserved-in-Continue-branch-4
loop-at-preserved-in-Continue-branch-4 c =
    let e = c.index-entries-at.result in
    record {
      within = omega arith;
      so_far =
          rw (dropped c.args.entries.now c.loop-at.at e _ (omega arith) c.loop-at.invariant.within c.index-entries-at.is)
          (ranks-put e (drop c.loop-at.at c.args.entries.now) c.args.entries.now c.args.source.now c.args.host.now (found c.loop-at.ranks)
          (found c.put_rank.new.ranks)
          c.in-Some.rank _ _ (sym c.is_empty.ensures ∙ c.if-is_empty.true)
          (stated_here c.args.entries.now e.stanza _ (found c.in_ok-priorities.priorities) _ c.as_slice-stanza.ensures c.stated.ensures
          c.in_ok-priorities.ensures)
          (subst (λ o. IsRankBy c.stated.result c.args.source.now c.args.host.now e.stanza o) c.in-Some.is c.in_ok-rank.ensures)
          c.as_slice-stanza.ensures c.in_ok-put_rank.ensures c.loop-at.invariant.so_far);
    }

pub loop-at-preserved-in_default : goal.loop-at-preserved-in_default
loop-at-preserved-in_default c =
    let e = c.index-entries-at.result in
    record {
      within = omega arith;
      so_far =
          rw (dropped c.args.entries.now c.loop-at.at e _ (omega arith) c.loop-at.invariant.within c.index-entries-at.is)
          (ranks-left e (drop c.loop-at.at c.args.entries.now) c.args.entries.now c.args.source.now c.args.host.now (found c.loop-at.ranks)
          _ (sym c.is_empty.ensures ∙ c.if-is_empty.true)
          (stated_here c.args.entries.now e.stanza _ (found c.in_ok-priorities.priorities) _ c.as_slice-stanza.ensures c.stated.ensures
          c.in_ok-priorities.ensures)
          (subst (λ o. IsRankBy c.stated.result c.args.source.now c.args.host.now e.stanza o) c.in_default.is c.in_ok-rank.ensures)
          c.loop-at.invariant.so_far);
    }

pub loop-at-preserved : goal.loop-at-preserved
loop-at-preserved c =
    let e = c.index-entries-at.result in
    record {
      within = omega arith;
      so_far =
          rw (dropped c.args.entries.now c.loop-at.at e _ (omega arith) c.loop-at.invariant.within c.index-entries-at.is)
          (ranks-other e (drop c.loop-at.at c.args.entries.now) c.args.entries.now c.args.source.now c.args.host.now (found c.loop-at.ranks)
          (sym c.is_empty.ensures ∙ c.if-is_empty.false) c.loop-at.invariant.so_far);
    }

pub returns : goal.returns
returns c =
    subst (λ part. AreRanks part c.args.entries.now c.args.source.now c.args.host.now (found c.loop-at.ranks))
    (none_dropped c.args.entries.now c.loop-at.at (λ h. omega arith)) c.loop-at.invariant.so_far
