use Rattle.std.proofs.Common.{◌∙◌, refl}
use Rattle.ix_http.specs.Replies.{header_lines}
use Rattle.ix_base.proofs.ToldLemmas.{on_err_always, begun_of_more, then_begun, then_written}
use Rattle.std.specs.Prelude.{Ok}
use Rattle.ix_net.proofs.GoesLemmas.{goes_on}
use Rattle.ix_http.proofs.PutLemmas.{side_behind, cause_behind}
use Rattle.ix_http.proofs.replies.put_head.Goals as goal

pub returns-in_err-put_status-clause-begun : goal.returns-in_err-put_status-clause-begun
returns-in_err-put_status-clause-begun g c = on_err_always c.from_residual.result
    (begun_of_more (header_lines c.args.length c.args.kind) c.in_err-put_status.ensures.begun)

pub returns-in_err-put_headers-clause-begun : goal.returns-in_err-put_headers-clause-begun
returns-in_err-put_headers-clause-begun g c = on_err_always c.from_residual-in_err-put_headers.result
    (then_begun c.in_ok-put_status.ensures.written c.in_err-put_headers.ensures.begun)

pub returns-clause-written : goal.returns-clause-written
returns-clause-written g c = then_written c.in_ok-put_status.ensures.written c.in_ok-put_headers.ensures.written

-- ---- what the link keeps, and why it failed

pub returns-in_err-put_headers-clause-left : goal.returns-in_err-put_headers-clause-left
returns-in_err-put_headers-clause-left g c = c.put_headers.ensures.left ∙ c.put_status.ensures.left

pub returns-in_err-put_headers-clause-goes : goal.returns-in_err-put_headers-clause-goes
returns-in_err-put_headers-clause-goes g c = goes_on c.put_status.ensures.goes c.put_headers.ensures.goes

pub returns-in_err-put_headers-clause-side : goal.returns-in_err-put_headers-clause-side
returns-in_err-put_headers-clause-side g c = on_err_always c.from_residual-in_err-put_headers.result
    (side_behind _ c.put_status.ensures.goes c.in_err-put_headers.ensures.side)

pub returns-in_err-put_headers-clause-cause : goal.returns-in_err-put_headers-clause-cause
returns-in_err-put_headers-clause-cause g c = cause_behind c.from_residual-in_err-put_headers.result c.put_status.ensures.cause.later
    c.in_err-put_headers.ensures.cause (λ is. refl)

pub returns-clause-left : goal.returns-clause-left
returns-clause-left g c = c.put_headers.ensures.left ∙ c.put_status.ensures.left

pub returns-clause-goes : goal.returns-clause-goes
returns-clause-goes g c = goes_on c.put_status.ensures.goes c.put_headers.ensures.goes

pub returns-clause-cause : goal.returns-clause-cause
returns-clause-cause g c = cause_behind (Ok tt) c.put_status.ensures.cause.later c.in_ok-put_headers.ensures.cause (λ is. is)
