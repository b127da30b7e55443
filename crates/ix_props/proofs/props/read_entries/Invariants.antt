use Rattle.std.proofs.Common.{◌-◌, length, take}
use Rattle.ix_props.specs.Props.{AreRead}
use Rattle.ix_props.proofs.props.read_entries.Given as goal

abbrev pub invariant-loop-item : goal.invariant-loop-item
invariant-loop-item l = AreRead l.transforms l.zones (take (length l.found) l.props) l.found

abbrev pub decreases-loop-item : goal.decreases-loop-item
decreases-loop-item l = length l.props - length l.found
