use Rattle.std.proofs.Common.{FitsSigned, w64}
use Rattle.std.proofs.lemmas.Int.{to_z-of_z}
use Rattle.ix_dates.proofs.YearLemmas.{instant_in_year-behind}
use Rattle.ix_dates.proofs.year.last_year.Goals as goal

pub returns-clause-enough : goal.returns-clause-enough
returns-clause-enough c offset civil y late =
    let fit : FitsSigned w64 c.args.arrival = c.ranges.arrival in
    let far = simp to_z-of_z at late in
    instant_in_year-behind c.args.zone.now offset civil c.args.arrival y c.requires.low far
