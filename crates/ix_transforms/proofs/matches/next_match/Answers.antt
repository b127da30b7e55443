use Rattle.std.proofs.Common.{arith}
use Rattle.ix_transforms.proofs.MatchLemmas.{first-is, first-past}
use Rattle.ix_transforms.proofs.matches.next_match.Goals as goal

pub returns-then-from-text-clause-first : goal.returns-then-from-text-clause-first
returns-then-from-text-clause-first c = first-past c.args.pattern.now c.args.text.now c.args.from (omega arith)

pub returns-clause-first : goal.returns-clause-first
returns-clause-first c =
    first-is c.args.pattern.now c.args.text.now c.args.from c.in_ok-found.found (omega arith) c.in_ok-found.ensures.first
    c.in_ok-found.ensures.lies
