use Rattle.std.proofs.Common.{rules, arith, ◌+◌, subst}
use Rattle.ix_match.specs.Matches.{MatchesAt}
use Rattle.ix_match.proofs.FindLemmas.{none-joined, none-past, first-joined}
use Rattle.ix_match.proofs.compiled.CompiledPattern.found_from.Goals as goal

pub returns-in_default-candidate-clause-first : goal.returns-in_default-candidate-clause-first
returns-in_default-candidate-clause-first g c = search rules

pub loop-room-preserved : goal.loop-room-preserved
loop-room-preserved g c =
    let p = c.args.self.now.pattern in
    let text = c.args.text.now in
    let at = c.loop-room.at in
    let inv = c.loop-room.invariant in
    let next = c.in-Some-candidate.ensures in
    let none = none-past p text c.args.from at inv.none (subst (MatchesAt p text at) c.in_default.is c.in_ok-found-2.ensures.preferred) in
    record {
      later = omega (arith, inv.later, next.0);
      within = next.1;
      none = none-joined p text c.args.from (at + 1) c.in-Some-candidate.next none next.2;
      room = c.in_ok-found-2.ensures.room;
    }

pub returns-then-is_spent-clause-first : goal.returns-then-is_spent-clause-first
returns-then-is_spent-clause-first g c =
    first-joined c.args.self.now.pattern c.args.text.now c.args.from c.loop-room.at c.in_ok-found.found c.loop-room.invariant.none
    c.in_ok-found.ensures.first
