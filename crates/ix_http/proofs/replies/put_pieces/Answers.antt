use Rattle.std.proofs.Common.{◌∙◌, refl}
use Rattle.ix_base.proofs.ToldLemmas.{on_err_always, begun_of_more, then_begun, then_written}
use Rattle.std.specs.Prelude.{Ok}
use Rattle.ix_net.proofs.GoesLemmas.{goes_on}
use Rattle.ix_http.proofs.PutLemmas.{side_behind, cause_behind}
use Rattle.ix_http.proofs.replies.put_pieces.Goals as goal

pub returns-in_err-put_head-clause-begun : goal.returns-in_err-put_head-clause-begun
returns-in_err-put_head-clause-begun g c = on_err_always c.from_residual.result
    (begun_of_more c.args.text.now c.in_err-put_head.ensures.begun)

pub returns-in_err-put-clause-begun : goal.returns-in_err-put-clause-begun
returns-in_err-put-clause-begun g c = on_err_always c.from_residual-in_err-put.result
    (then_begun c.in_ok-put_head.ensures.written c.in_err-put.ensures.begun)

pub returns-clause-written : goal.returns-clause-written
returns-clause-written g c = then_written c.in_ok-put_head.ensures.written c.in_ok-put.ensures.written

-- ---- what the link keeps, and why it failed

pub returns-in_err-put-clause-left : goal.returns-in_err-put-clause-left
returns-in_err-put-clause-left g c = c.put.ensures.left ∙ c.put_head.ensures.left

pub returns-in_err-put-clause-goes : goal.returns-in_err-put-clause-goes
returns-in_err-put-clause-goes g c = goes_on c.put_head.ensures.goes c.put.ensures.goes

pub returns-in_err-put-clause-side : goal.returns-in_err-put-clause-side
returns-in_err-put-clause-side g c = on_err_always c.from_residual-in_err-put.result
    (side_behind _ c.put_head.ensures.goes c.in_err-put.ensures.side)

pub returns-in_err-put-clause-cause : goal.returns-in_err-put-clause-cause
returns-in_err-put-clause-cause g c = cause_behind c.from_residual-in_err-put.result c.put_head.ensures.cause.later
    c.in_err-put.ensures.cause (λ is. refl)

pub returns-clause-left : goal.returns-clause-left
returns-clause-left g c = c.put.ensures.left ∙ c.put_head.ensures.left

pub returns-clause-goes : goal.returns-clause-goes
returns-clause-goes g c = goes_on c.put_head.ensures.goes c.put.ensures.goes

pub returns-clause-cause : goal.returns-clause-cause
returns-clause-cause g c = cause_behind (Ok tt) c.put_head.ensures.cause.later c.in_ok-put.ensures.cause (λ is. is)
