use Rattle.std.proofs.Common.{rules, arith}
use Rattle.std.proofs.lemmas.Grind.{common_steps}
use Rattle.ix_dates.specs.Instant.{instant_in}
use Rattle.ix_dates.proofs.ChoiceLemmas.{instant_in-is}
use Rattle.ix_dates.proofs.picked.instant.Goals as goal

pub returns-in_err-dt : goal.returns-in_err-dt
unfolding instant_in
returns-in_err-dt c = grind (arith, common_steps)

pub returns : goal.returns
returns c = search (rules, instant_in-is)
