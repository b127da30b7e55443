use Rattle.ix_export.specs.EventLine.{field}
use Rattle.ix_base.proofs.ToldLemmas.{on_err_always, begun_of_more, then_begun, then_written}
use Rattle.ix_export.proofs.lines.put_tabbed.Goals as goal

pub returns-in_err-put-clause-begun : goal.returns-in_err-put-clause-begun
returns-in_err-put-clause-begun g c =
    on_err_always c.from_residual.result (begun_of_more (field c.args.bytes.now) c.in_err-put.ensures.begun)

pub returns-in_err-put_field-clause-begun : goal.returns-in_err-put_field-clause-begun
returns-in_err-put_field-clause-begun g c =
    on_err_always c.from_residual-in_err-put_field.result (then_begun c.in_ok-put.ensures.written c.in_err-put_field.ensures.begun)

pub returns-clause-written : goal.returns-clause-written
returns-clause-written g c = then_written c.in_ok-put.ensures.written c.in_ok-put_field.ensures.written
