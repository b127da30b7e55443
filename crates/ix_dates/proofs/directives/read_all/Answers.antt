use Rattle.std.proofs.Common.{sym, ◌∙◌}
use Rattle.ix_dates.proofs.FormatLemmas.{ends, goes_on, stops}
use Rattle.ix_dates.proofs.directives.read_all.Goals as goal

pub returns-in_err-field : goal.returns-in_err-field
returns-in_err-field c =
    rw c.from_residual.ensures (sym (stops c.args.directives.now c.loop-directive.directive-index _ c.loop-directive.fields
    c.loop-directive.rest.now c.loop-directive-test.true c.in_err-field.ensures) ∙ c.loop-directive.invariant)

pub loop-directive-preserved : goal.loop-directive-preserved
loop-directive-preserved c =
    rw c.with-fields.ensures (sym (goes_on c.args.directives.now c.loop-directive.directive-index _ c.loop-directive.fields
    c.in_ok-field.field c.loop-directive.rest.now c.in_ok-field.next.now c.loop-directive-test.true c.in_ok-field.ensures)
    ∙ c.loop-directive.invariant)

pub returns : goal.returns
returns c =
    sym (ends c.args.directives.now c.loop-directive.directive-index c.loop-directive.fields c.loop-directive.rest.now
    c.loop-directive-test.false) ∙ c.loop-directive.invariant
