use Rattle.ix_props.proofs.UsableLemmas.{sound_from_read}
use Rattle.ix_props.proofs.props.Props.load.Goals as goal

pub invariant_of-result : goal.invariant_of-result
invariant_of-result c =
    sound_from_read c.args.transforms.now c.args.zones.now c.args.props.now c.in_ok-entries.entries c.in_ok-entries.ensures.ok
