use Rattle.ix_recovery.specs.Putting.{IsPut, spot_item}
use Rattle.ix_recovery.proofs.spots.put_spots.Given as goal

abbrev pub invariant-loop-spot : goal.invariant-loop-spot
invariant-loop-spot l = IsPut spot_item l.spots l.spot-index l.initial.said l.said
