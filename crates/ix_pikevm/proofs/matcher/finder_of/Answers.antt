use Rattle.std.proofs.Common.{length, ap, arith}
use Rattle.ix_pikevm.proofs.matcher.finder_of.Goals as goal

pub returns : goal.returns
returns c = record {
  program = c.in_ok-program.ensures;
  all = ap length c.new.ensures.items;
  table = λ byte k h lt. absurd (omega (arith, lt));
}
