use Rattle.std.proofs.Common.{[], ◌∷◌}
use Rattle.ix_export.specs.EventLine.{field, time_text}
use Rattle.ix_base.proofs.ToldLemmas.{on_err_always, begun_of_more, then_begun, then_written}
use Rattle.ix_export.proofs.lines.write_line.Goals as goal

pub returns-in_err-put_field-clause-begun : goal.returns-in_err-put_field-clause-begun
returns-in_err-put_field-clause-begun g c =
    on_err_always c.from_residual.result
    (begun_of_more (10 ∷ []) (begun_of_more (9 ∷ field c.args.event.now.raw.now)
    (begun_of_more (9 ∷ field c.args.event.now.meta.now)
    (begun_of_more (9 ∷ field c.args.event.now.sourcetype.now)
    (begun_of_more (9 ∷ field c.args.event.now.source.now)
    (begun_of_more (9 ∷ field c.args.event.now.host.now)
    (begun_of_more (9 ∷ time_text c.args.event.now.time) c.in_err-put_field.ensures.begun)))))))

pub returns-in_err-put_tabbed_time-clause-begun : goal.returns-in_err-put_tabbed_time-clause-begun
returns-in_err-put_tabbed_time-clause-begun g c =
    on_err_always c.from_residual-in_err-put_tabbed_time.result
    (begun_of_more (10 ∷ []) (begun_of_more (9 ∷ field c.args.event.now.raw.now)
    (begun_of_more (9 ∷ field c.args.event.now.meta.now)
    (begun_of_more (9 ∷ field c.args.event.now.sourcetype.now)
    (begun_of_more (9 ∷ field c.args.event.now.source.now)
    (begun_of_more (9 ∷ field c.args.event.now.host.now)
    (then_begun c.in_ok-put_field.ensures.written c.in_err-put_tabbed_time.ensures.begun)))))))

pub returns-in_err-put_tabbed-clause-begun : goal.returns-in_err-put_tabbed-clause-begun
returns-in_err-put_tabbed-clause-begun g c =
    on_err_always c.from_residual-in_err-put_tabbed.result
    (begun_of_more (10 ∷ []) (begun_of_more (9 ∷ field c.args.event.now.raw.now)
    (begun_of_more (9 ∷ field c.args.event.now.meta.now)
    (begun_of_more (9 ∷ field c.args.event.now.sourcetype.now)
    (begun_of_more (9 ∷ field c.args.event.now.source.now)
    (then_begun (then_written c.in_ok-put_field.ensures.written c.in_ok-put_tabbed_time.ensures.written)
    c.in_err-put_tabbed.ensures.begun))))))

pub returns-in_err-put_tabbed-2-clause-begun : goal.returns-in_err-put_tabbed-2-clause-begun
returns-in_err-put_tabbed-2-clause-begun g c =
    on_err_always c.from_residual-in_err-put_tabbed-2.result
    (begun_of_more (10 ∷ []) (begun_of_more (9 ∷ field c.args.event.now.raw.now)
    (begun_of_more (9 ∷ field c.args.event.now.meta.now)
    (begun_of_more (9 ∷ field c.args.event.now.sourcetype.now)
    (then_begun (then_written (then_written c.in_ok-put_field.ensures.written c.in_ok-put_tabbed_time.ensures.written)
    c.in_ok-put_tabbed.ensures.written) c.in_err-put_tabbed-2.ensures.begun)))))

pub returns-in_err-put_tabbed-3-clause-begun : goal.returns-in_err-put_tabbed-3-clause-begun
returns-in_err-put_tabbed-3-clause-begun g c =
    on_err_always c.from_residual-in_err-put_tabbed-3.result
    (begun_of_more (10 ∷ []) (begun_of_more (9 ∷ field c.args.event.now.raw.now)
    (begun_of_more (9 ∷ field c.args.event.now.meta.now)
    (then_begun (then_written (then_written (then_written c.in_ok-put_field.ensures.written c.in_ok-put_tabbed_time.ensures.written)
    c.in_ok-put_tabbed.ensures.written) c.in_ok-put_tabbed-2.ensures.written) c.in_err-put_tabbed-3.ensures.begun))))

pub returns-in_err-put_tabbed-4-clause-begun : goal.returns-in_err-put_tabbed-4-clause-begun
returns-in_err-put_tabbed-4-clause-begun g c =
    on_err_always c.from_residual-in_err-put_tabbed-4.result
    (begun_of_more (10 ∷ []) (begun_of_more (9 ∷ field c.args.event.now.raw.now)
    (then_begun (then_written (then_written (then_written
    (then_written c.in_ok-put_field.ensures.written c.in_ok-put_tabbed_time.ensures.written) c.in_ok-put_tabbed.ensures.written)
    c.in_ok-put_tabbed-2.ensures.written) c.in_ok-put_tabbed-3.ensures.written) c.in_err-put_tabbed-4.ensures.begun)))

pub returns-in_err-put_tabbed-5-clause-begun : goal.returns-in_err-put_tabbed-5-clause-begun
returns-in_err-put_tabbed-5-clause-begun g c =
    on_err_always c.from_residual-in_err-put_tabbed-5.result
    (begun_of_more (10 ∷ []) (then_begun (then_written (then_written
    (then_written (then_written (then_written c.in_ok-put_field.ensures.written c.in_ok-put_tabbed_time.ensures.written)
    c.in_ok-put_tabbed.ensures.written) c.in_ok-put_tabbed-2.ensures.written) c.in_ok-put_tabbed-3.ensures.written)
    c.in_ok-put_tabbed-4.ensures.written) c.in_err-put_tabbed-5.ensures.begun))

pub returns-in_err-put-clause-begun : goal.returns-in_err-put-clause-begun
returns-in_err-put-clause-begun g c =
    on_err_always c.from_residual-in_err-put.result
    (then_begun (then_written (then_written (then_written
    (then_written (then_written (then_written c.in_ok-put_field.ensures.written c.in_ok-put_tabbed_time.ensures.written)
    c.in_ok-put_tabbed.ensures.written) c.in_ok-put_tabbed-2.ensures.written) c.in_ok-put_tabbed-3.ensures.written)
    c.in_ok-put_tabbed-4.ensures.written) c.in_ok-put_tabbed-5.ensures.written) c.in_err-put.ensures.begun)

pub returns-clause-written : goal.returns-clause-written
returns-clause-written g c = (then_written (then_written
    (then_written (then_written (then_written (then_written
    (then_written c.in_ok-put_field.ensures.written c.in_ok-put_tabbed_time.ensures.written) c.in_ok-put_tabbed.ensures.written)
    c.in_ok-put_tabbed-2.ensures.written) c.in_ok-put_tabbed-3.ensures.written) c.in_ok-put_tabbed-4.ensures.written)
    c.in_ok-put_tabbed-5.ensures.written) c.in_ok-put.ensures.written)
