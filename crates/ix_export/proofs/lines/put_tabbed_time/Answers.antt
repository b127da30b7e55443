use Rattle.std.proofs.Common.{rules, ◌≡◌, w64, SFits}
use Rattle.std.specs.Prelude.{unsigned_abs}
use Rattle.std.proofs.lemmas.Int.{to_z-of_z}
use Rattle.ix_export.specs.EventLine.{time_text, seconds_text}
use Rattle.ix_base.proofs.ToldLemmas.{on_err_always, begun_of_more, then_begun, then_written}
use Rattle.ix_export.proofs.lines.put_tabbed_time.Goals as goal

pub returns-in_err-put-clause-begun : goal.returns-in_err-put-clause-begun
returns-in_err-put-clause-begun g c =
    on_err_always c.from_residual.result (begun_of_more (time_text c.args.event.now.time) c.in_err-put.ensures.begun)

pub returns-in_err-put_sign-clause-begun : goal.returns-in_err-put_sign-clause-begun
returns-in_err-put_sign-clause-begun g c =
    let fits : SFits w64 c.args.event.now.time = search rules in
    on_err_always c.from_residual-in_err-put_sign.result
    (begun_of_more (seconds_text (unsigned_abs c.args.event.now.time))
    (then_begun c.in_ok-put.ensures.written (simp to_z-of_z at c.in_err-put_sign.ensures.begun)))

pub returns-in_err-put_seconds-clause-begun : goal.returns-in_err-put_seconds-clause-begun
returns-in_err-put_seconds-clause-begun g c =
    let fits : SFits w64 c.args.event.now.time = search rules in
    let size : c.unsigned_abs.result ≡ unsigned_abs c.args.event.now.time = simp to_z-of_z at c.unsigned_abs.ensures.value in
    on_err_always c.from_residual-in_err-put_seconds.result
    (then_begun (then_written c.in_ok-put.ensures.written (simp to_z-of_z at c.in_ok-put_sign.ensures.written))
    (simp size at c.in_err-put_seconds.ensures.begun))

pub returns-clause-written : goal.returns-clause-written
returns-clause-written g c =
    let fits : SFits w64 c.args.event.now.time = search rules in
    let size : c.unsigned_abs.result ≡ unsigned_abs c.args.event.now.time = simp to_z-of_z at c.unsigned_abs.ensures.value in
    then_written (then_written c.in_ok-put.ensures.written (simp to_z-of_z at c.in_ok-put_sign.ensures.written))
    (simp size at c.in_ok-put_seconds.ensures.written)
