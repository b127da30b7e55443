use Rattle.std.proofs.Common.{w64}
use Rattle.std.proofs.lemmas.Int.{to_z-of_z}
use Rattle.ix_catalog.proofs.TurningLemmas.{turn_is}
use Rattle.ix_catalog.proofs.housekeeping.Housekeeping.of.Goals as goal

pub returns : goal.returns
returns c = turn_is c.args.view.now _ c.args.moment _ _ c.in_ok-copy.ensures (to_z-of_z w64 c.args.moment c.ranges.moment)
    c.in_ok-housekeep.ensures
