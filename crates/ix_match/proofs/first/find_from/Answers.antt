use Rattle.std.proofs.Common.{rules, arith, subst}
use Rattle.ix_match.specs.Matches.{MatchesAt}
use Rattle.ix_match.proofs.FindLemmas.{none-joined, none-past}
use Rattle.ix_match.proofs.first.find_from.Goals as goal

pub returns-then-at-text-clause-first : goal.returns-then-at-text-clause-first
returns-then-at-text-clause-first g c = search rules

pub returns-then-is_spent-clause-first : goal.returns-then-is_spent-clause-first
returns-then-is_spent-clause-first g c = search rules

pub loop-at-preserved : goal.loop-at-preserved
loop-at-preserved g c =
    let p = c.args.p.now in
    let text = c.args.text.now in
    let at = c.in-Some.at in
    let inv = c.loop-at.invariant in
    let next = c.in-Some.ensures in
    record {
      later = omega (arith, inv.later, next.0);
      within = omega (arith, next.1, c.if-at-text.false);
      none = none-past p text c.args.from at (none-joined p text c.args.from c.loop-at.place at inv.none next.2)
          (subst (MatchesAt p text at) c.in_default-2.is c.in_ok-found-2.ensures.preferred);
      search = c.in_ok-found-2.ensures.search;
    }
