use Rattle.std.proofs.Common.{refl}
use Rattle.jiff_core.specs.DateTime.{civil_nanos}
use Rattle.ix_dates.proofs.ChoiceLemmas.{wall_micros-nanos}
use Rattle.ix_dates.proofs.wall.CivilTime.to_jiff.Goals as goal

pub returns-clause-nanos : goal.returns-clause-nanos
unfolding civil_nanos
returns-clause-nanos c = wall_micros-nanos c.args.self _ _ c.in_ok-date.ensures.number refl
