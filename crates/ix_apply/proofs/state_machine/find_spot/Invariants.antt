use Rattle.std.proofs.Common.{◌≡◌, drop}
use Rattle.ix_model.specs.State.{spot_path}
use Rattle.ix_catalog.specs.Lists.{find}
use Rattle.ix_apply.proofs.state_machine.find_spot.Given as goal

abbrev pub invariant-loop-spot : goal.invariant-loop-spot
invariant-loop-spot l = find spot_path l.path (drop l.spot-index l.spots) ≡ find spot_path l.path l.spots
