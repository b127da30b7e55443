use Rattle.std.proofs.Common.{sym, ◌∙◌}
use Rattle.ix_conf_values.proofs.FormatLemmas.{stops, goes_on, closed, unclosed}
use Rattle.ix_conf_values.proofs.formats.read_directives.Goals as goal

pub returns-in_default-clause-bad : goal.returns-in_default-clause-bad
returns-in_default-clause-bad c bad =
    sym c.loop-byte.invariant ∙ stops c.args.text.now c.loop-byte.byte-index _ c.loop-byte.place c.loop-byte.found.items
    c.loop-byte-test.true c.in_default.ensures

pub loop-byte-preserved : goal.loop-byte-preserved
loop-byte-preserved c =
    rw c.in-Ok.ensures (sym (goes_on c.args.text.now c.loop-byte.byte-index _ c.loop-byte.place c.in-Some.next c.loop-byte.found.items _
    c.loop-byte-test.true c.in-Some.ensures) ∙ c.loop-byte.invariant)

pub returns-then-is_ended-clause-value : goal.returns-then-is_ended-clause-value
returns-then-is_ended-clause-value c =
    sym c.loop-byte.invariant ∙ closed c.args.text.now c.loop-byte.byte-index c.loop-byte.place c.loop-byte.found.items
    c.loop-byte-test.false (sym c.if-is_ended.ensures)

pub returns-else-is_ended-clause-bad : goal.returns-else-is_ended-clause-bad
returns-else-is_ended-clause-bad c bad =
    sym c.loop-byte.invariant ∙ unclosed c.args.text.now c.loop-byte.byte-index c.loop-byte.place c.loop-byte.found.items
    c.loop-byte-test.false (sym c.if-is_ended.ensures)
