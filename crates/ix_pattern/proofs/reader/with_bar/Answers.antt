use Rattle.std.proofs.Common.{refl, None}
use Rattle.ix_pattern.proofs.reader.with_bar.Goals as goal

pub returns-clause-meaning : goal.returns-clause-meaning
returns-clause-meaning c =
    λ n s f. record {
      waits = refl;
      first = (refl, refl);
      others = (_, _, refl, refl, (c.in_ok-others.ensures.meaning n s None f).added);
      plain = f.plain;
      deep = f.deep;
      high = f.high;
    }
