use Rattle.std.proofs.Common.{◌≡◌, pos, arith}
use Rattle.std.proofs.lemmas.Int.{ints}
use Rattle.jiff_core.specs.Date.{ordinal}
use Rattle.ix_dates.proofs.ChoiceLemmas.{ordinal_number-is}
use Rattle.ix_dates.proofs.wall.on_ordinal.Goals as goal

pub returns-in-Ok-clause-number : goal.returns-in-Ok-clause-number
returns-in-Ok-clause-number c =
    let year : c.in-Ok.date.year ≡ pos c.args.year = omega (arith, ints, c.in-Ok.ensures.value.0) in
    let place : pos (ordinal c.in-Ok.date) ≡ pos c.args.number = omega (arith, ints, c.in-Ok.ensures.value.1) in
    ordinal_number-is c.in-Ok.date (pos c.args.year) c.args.number year place
