use Rattle.std.proofs.Common.{sym, ◌∙◌}
use Rattle.ix_props.proofs.KindLemmas.{stops, goes_on}
use Rattle.ix_props.proofs.kinds.behind.Goals as goal

pub returns-in_default : goal.returns-in_default
returns-in_default c =
    sym (stops c.args.prefix.now c.loop-byte.rest.now c.loop-byte.byte-index c.loop-byte-test.true c.in_default.ensures)
    ∙ c.loop-byte.invariant

pub loop-byte-preserved : goal.loop-byte-preserved
loop-byte-preserved c =
    sym (goes_on c.args.prefix.now c.loop-byte.rest.now _ c.loop-byte.byte-index c.loop-byte-test.true c.in-Some.ensures)
    ∙ c.loop-byte.invariant
