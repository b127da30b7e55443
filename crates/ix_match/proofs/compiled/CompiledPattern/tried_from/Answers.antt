use Rattle.std.proofs.Common.{rules, arith, ◌+◌, subst}
use Rattle.ix_match.specs.Tries.{IsTriedAt}
use Rattle.ix_match.proofs.FindLemmas.{none-joined, none-past}
use Rattle.ix_match.proofs.compiled.CompiledPattern.tried_from.Goals as goal

pub returns-in-From-clause-is : goal.returns-in-From-clause-is
returns-in-From-clause-is g c = search rules

pub loop-tries-preserved : goal.loop-tries-preserved
loop-tries-preserved g c =
    let p = c.args.self.now.pattern in
    let text = c.args.text.now in
    let at = c.loop-tries.at in
    let inv = c.loop-tries.invariant in
    let next = c.in-Some.ensures in
    let none = none-past p text c.args.from at inv.none (subst (IsTriedAt p text at) c.in-No.is c.in_ok-found.ensures.is) in
    record {
      later = omega (arith, inv.later, next.0);
      within = next.1;
      none = none-joined p text c.args.from (at + 1) c.in-Some.further none next.2;
    }
