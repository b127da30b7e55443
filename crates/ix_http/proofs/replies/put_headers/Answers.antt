use Rattle.std.proofs.Common.{decimal, codes, ◌∙◌, le_trans, refl}
use Rattle.ix_net.proofs.GoesLemmas.{goes_on}
use Rattle.ix_http.specs.Replies.{type_of}
use Rattle.ix_base.proofs.ToldLemmas.{on_err_always, begun_of_more, then_begun, then_written}
use Rattle.std.specs.Prelude.{Ok}
use Rattle.ix_http.proofs.PutLemmas.{side_behind, cause_behind}
use Rattle.ix_http.proofs.replies.put_headers.Goals as goal

pub returns-in_err-put-clause-begun : goal.returns-in_err-put-clause-begun
returns-in_err-put-clause-begun g c = on_err_always c.from_residual.result
    (begun_of_more (codes "\r\nConnection: close\r\n\r\n")
    (begun_of_more (type_of c.args.kind) (begun_of_more (codes "\r\nContent-Type: ")
    (begun_of_more (decimal c.args.length) c.in_err-put.ensures.begun))))

pub returns-in_err-put_number-clause-begun : goal.returns-in_err-put_number-clause-begun
returns-in_err-put_number-clause-begun g c = on_err_always c.from_residual-in_err-put_number.result
    (begun_of_more (codes "\r\nConnection: close\r\n\r\n")
    (begun_of_more (type_of c.args.kind) (begun_of_more (codes "\r\nContent-Type: ")
    (then_begun c.in_ok-put.ensures.written c.in_err-put_number.ensures.begun))))

pub returns-in_err-put-2-clause-begun : goal.returns-in_err-put-2-clause-begun
returns-in_err-put-2-clause-begun g c = on_err_always c.from_residual-in_err-put-2.result
    (begun_of_more (codes "\r\nConnection: close\r\n\r\n")
    (begun_of_more (type_of c.args.kind) (then_begun (then_written c.in_ok-put.ensures.written c.in_ok-put_number.ensures.written)
    c.in_err-put-2.ensures.begun)))

pub returns-in_err-put_type-clause-begun : goal.returns-in_err-put_type-clause-begun
returns-in_err-put_type-clause-begun g c = on_err_always c.from_residual-in_err-put_type.result
    (begun_of_more (codes "\r\nConnection: close\r\n\r\n")
    (then_begun (then_written (then_written c.in_ok-put.ensures.written c.in_ok-put_number.ensures.written) c.in_ok-put-2.ensures.written)
    c.in_err-put_type.ensures.begun))

pub returns-in_err-put-3-clause-begun : goal.returns-in_err-put-3-clause-begun
returns-in_err-put-3-clause-begun g c = on_err_always c.from_residual-in_err-put-3.result
    (then_begun (then_written (then_written (then_written c.in_ok-put.ensures.written c.in_ok-put_number.ensures.written)
    c.in_ok-put-2.ensures.written) c.in_ok-put_type.ensures.written) c.in_err-put-3.ensures.begun)

pub returns-clause-written : goal.returns-clause-written
returns-clause-written g c = (then_written (then_written
    (then_written (then_written c.in_ok-put.ensures.written c.in_ok-put_number.ensures.written) c.in_ok-put-2.ensures.written)
    c.in_ok-put_type.ensures.written) c.in_ok-put-3.ensures.written)

pub returns-in_err-put_type-clause-goes : goal.returns-in_err-put_type-clause-goes
returns-in_err-put_type-clause-goes g c = goes_on c.put.ensures.goes
    (goes_on c.put_number.ensures.goes (goes_on c.put-2.ensures.goes c.put_type.ensures.goes))

pub returns-in_err-put-3-clause-goes : goal.returns-in_err-put-3-clause-goes
returns-in_err-put-3-clause-goes g c =
    goes_on c.put.ensures.goes (goes_on c.put_number.ensures.goes
    (goes_on c.put-2.ensures.goes (goes_on c.put_type.ensures.goes c.put-3.ensures.goes)))

-- ---- what the link keeps, and why it failed

pub returns-in_err-put_number-clause-left : goal.returns-in_err-put_number-clause-left
returns-in_err-put_number-clause-left g c = c.put_number.ensures.left ∙ c.put.ensures.left

pub returns-in_err-put_number-clause-goes : goal.returns-in_err-put_number-clause-goes
returns-in_err-put_number-clause-goes g c = goes_on c.put.ensures.goes c.put_number.ensures.goes

pub returns-in_err-put_number-clause-side : goal.returns-in_err-put_number-clause-side
returns-in_err-put_number-clause-side g c = on_err_always c.from_residual-in_err-put_number.result
    (side_behind _ c.put.ensures.goes c.in_err-put_number.ensures.side)

pub returns-in_err-put_number-clause-cause : goal.returns-in_err-put_number-clause-cause
returns-in_err-put_number-clause-cause g c = cause_behind c.from_residual-in_err-put_number.result c.put.ensures.cause.later
    c.in_err-put_number.ensures.cause (λ is. refl)

pub returns-in_err-put-2-clause-left : goal.returns-in_err-put-2-clause-left
returns-in_err-put-2-clause-left g c = c.put-2.ensures.left ∙ (c.put_number.ensures.left ∙ c.put.ensures.left)

pub returns-in_err-put-2-clause-goes : goal.returns-in_err-put-2-clause-goes
returns-in_err-put-2-clause-goes g c = goes_on c.put.ensures.goes (goes_on c.put_number.ensures.goes c.put-2.ensures.goes)

pub returns-in_err-put-2-clause-side : goal.returns-in_err-put-2-clause-side
returns-in_err-put-2-clause-side g c = on_err_always c.from_residual-in_err-put-2.result
    (side_behind _ (goes_on c.put.ensures.goes c.put_number.ensures.goes) c.in_err-put-2.ensures.side)

pub returns-in_err-put-2-clause-cause : goal.returns-in_err-put-2-clause-cause
returns-in_err-put-2-clause-cause g c = cause_behind c.from_residual-in_err-put-2.result
    (le_trans c.put.ensures.cause.later c.put_number.ensures.cause.later) c.in_err-put-2.ensures.cause (λ is. refl)

pub returns-in_err-put_type-clause-left : goal.returns-in_err-put_type-clause-left
returns-in_err-put_type-clause-left g c = c.put_type.ensures.left
    ∙ (c.put-2.ensures.left ∙ (c.put_number.ensures.left ∙ c.put.ensures.left))

pub returns-in_err-put_type-clause-side : goal.returns-in_err-put_type-clause-side
returns-in_err-put_type-clause-side g c = on_err_always c.from_residual-in_err-put_type.result
    (side_behind _ (goes_on c.put.ensures.goes (goes_on c.put_number.ensures.goes c.put-2.ensures.goes)) c.in_err-put_type.ensures.side)

pub returns-in_err-put_type-clause-cause : goal.returns-in_err-put_type-clause-cause
returns-in_err-put_type-clause-cause g c = cause_behind c.from_residual-in_err-put_type.result
    (le_trans (le_trans c.put.ensures.cause.later c.put_number.ensures.cause.later) c.put-2.ensures.cause.later)
    c.in_err-put_type.ensures.cause (λ is. refl)

pub returns-in_err-put-3-clause-left : goal.returns-in_err-put-3-clause-left
returns-in_err-put-3-clause-left g c = c.put-3.ensures.left
    ∙ (c.put_type.ensures.left ∙ (c.put-2.ensures.left ∙ (c.put_number.ensures.left ∙ c.put.ensures.left)))

pub returns-in_err-put-3-clause-side : goal.returns-in_err-put-3-clause-side
returns-in_err-put-3-clause-side g c = on_err_always c.from_residual-in_err-put-3.result
    (side_behind _ (goes_on c.put.ensures.goes (goes_on c.put_number.ensures.goes (goes_on c.put-2.ensures.goes c.put_type.ensures.goes)))
    c.in_err-put-3.ensures.side)

pub returns-in_err-put-3-clause-cause : goal.returns-in_err-put-3-clause-cause
returns-in_err-put-3-clause-cause g c = cause_behind c.from_residual-in_err-put-3.result
    (le_trans (le_trans (le_trans c.put.ensures.cause.later c.put_number.ensures.cause.later) c.put-2.ensures.cause.later)
    c.put_type.ensures.cause.later) c.in_err-put-3.ensures.cause (λ is. refl)

pub returns-clause-left : goal.returns-clause-left
returns-clause-left g c = c.put-3.ensures.left ∙ (c.put_type.ensures.left
    ∙ (c.put-2.ensures.left ∙ (c.put_number.ensures.left ∙ c.put.ensures.left)))

pub returns-clause-goes : goal.returns-clause-goes
returns-clause-goes g c = goes_on c.put.ensures.goes (goes_on c.put_number.ensures.goes
    (goes_on c.put-2.ensures.goes (goes_on c.put_type.ensures.goes c.put-3.ensures.goes)))

pub returns-clause-cause : goal.returns-clause-cause
returns-clause-cause g c = cause_behind (Ok tt) (le_trans
    (le_trans (le_trans c.put.ensures.cause.later c.put_number.ensures.cause.later) c.put-2.ensures.cause.later)
    c.put_type.ensures.cause.later) c.in_ok-put-3.ensures.cause (λ is. is)
