use Rattle.std.proofs.Common.{decimal, codes, ◌∙◌, le_trans, refl}
use Rattle.ix_net.proofs.GoesLemmas.{goes_on}
use Rattle.ix_http.specs.Replies.{phrase_of}
use Rattle.ix_base.proofs.ToldLemmas.{on_err_always, begun_of_more, then_begun, then_written}
use Rattle.std.specs.Prelude.{Ok}
use Rattle.ix_http.proofs.PutLemmas.{side_behind, cause_behind}
use Rattle.ix_http.proofs.replies.put_status.Goals as goal

pub returns-in_err-put-clause-begun : goal.returns-in_err-put-clause-begun
returns-in_err-put-clause-begun g c = on_err_always c.from_residual.result
    (begun_of_more (phrase_of c.args.status) (begun_of_more (codes " ") (begun_of_more (decimal c.args.status) c.in_err-put.ensures.begun)))

pub returns-in_err-put_code-clause-begun : goal.returns-in_err-put_code-clause-begun
returns-in_err-put_code-clause-begun g c = on_err_always c.from_residual-in_err-put_code.result
    (begun_of_more (phrase_of c.args.status) (begun_of_more (codes " ")
    (then_begun c.in_ok-put.ensures.written c.in_err-put_code.ensures.begun)))

pub returns-in_err-put-2-clause-begun : goal.returns-in_err-put-2-clause-begun
returns-in_err-put-2-clause-begun g c = on_err_always c.from_residual-in_err-put-2.result
    (begun_of_more (phrase_of c.args.status) (then_begun (then_written c.in_ok-put.ensures.written c.in_ok-put_code.ensures.written)
    c.in_err-put-2.ensures.begun))

pub returns-in_err-put_phrase-clause-begun : goal.returns-in_err-put_phrase-clause-begun
returns-in_err-put_phrase-clause-begun g c = on_err_always c.from_residual-in_err-put_phrase.result
    (then_begun (then_written (then_written c.in_ok-put.ensures.written c.in_ok-put_code.ensures.written) c.in_ok-put-2.ensures.written)
    c.in_err-put_phrase.ensures.begun)

pub returns-clause-written : goal.returns-clause-written
returns-clause-written g c = (then_written (then_written (then_written c.in_ok-put.ensures.written c.in_ok-put_code.ensures.written)
    c.in_ok-put-2.ensures.written) c.in_ok-put_phrase.ensures.written)

pub returns-in_err-put_phrase-clause-goes : goal.returns-in_err-put_phrase-clause-goes
returns-in_err-put_phrase-clause-goes g c = goes_on c.put.ensures.goes
    (goes_on c.put_code.ensures.goes (goes_on c.put-2.ensures.goes c.put_phrase.ensures.goes))

-- ---- what the link keeps, and why it failed

pub returns-in_err-put_code-clause-left : goal.returns-in_err-put_code-clause-left
returns-in_err-put_code-clause-left g c = c.put_code.ensures.left ∙ c.put.ensures.left

pub returns-in_err-put_code-clause-goes : goal.returns-in_err-put_code-clause-goes
returns-in_err-put_code-clause-goes g c = goes_on c.put.ensures.goes c.put_code.ensures.goes

pub returns-in_err-put_code-clause-side : goal.returns-in_err-put_code-clause-side
returns-in_err-put_code-clause-side g c = on_err_always c.from_residual-in_err-put_code.result
    (side_behind _ c.put.ensures.goes c.in_err-put_code.ensures.side)

pub returns-in_err-put_code-clause-cause : goal.returns-in_err-put_code-clause-cause
returns-in_err-put_code-clause-cause g c = cause_behind c.from_residual-in_err-put_code.result c.put.ensures.cause.later
    c.in_err-put_code.ensures.cause (λ is. refl)

pub returns-in_err-put-2-clause-left : goal.returns-in_err-put-2-clause-left
returns-in_err-put-2-clause-left g c = c.put-2.ensures.left ∙ (c.put_code.ensures.left ∙ c.put.ensures.left)

pub returns-in_err-put-2-clause-goes : goal.returns-in_err-put-2-clause-goes
returns-in_err-put-2-clause-goes g c = goes_on c.put.ensures.goes (goes_on c.put_code.ensures.goes c.put-2.ensures.goes)

pub returns-in_err-put-2-clause-side : goal.returns-in_err-put-2-clause-side
returns-in_err-put-2-clause-side g c = on_err_always c.from_residual-in_err-put-2.result
    (side_behind _ (goes_on c.put.ensures.goes c.put_code.ensures.goes) c.in_err-put-2.ensures.side)

pub returns-in_err-put-2-clause-cause : goal.returns-in_err-put-2-clause-cause
returns-in_err-put-2-clause-cause g c = cause_behind c.from_residual-in_err-put-2.result
    (le_trans c.put.ensures.cause.later c.put_code.ensures.cause.later) c.in_err-put-2.ensures.cause (λ is. refl)

pub returns-in_err-put_phrase-clause-left : goal.returns-in_err-put_phrase-clause-left
returns-in_err-put_phrase-clause-left g c = c.put_phrase.ensures.left
    ∙ (c.put-2.ensures.left ∙ (c.put_code.ensures.left ∙ c.put.ensures.left))

pub returns-in_err-put_phrase-clause-side : goal.returns-in_err-put_phrase-clause-side
returns-in_err-put_phrase-clause-side g c = on_err_always c.from_residual-in_err-put_phrase.result
    (side_behind _ (goes_on c.put.ensures.goes (goes_on c.put_code.ensures.goes c.put-2.ensures.goes)) c.in_err-put_phrase.ensures.side)

pub returns-in_err-put_phrase-clause-cause : goal.returns-in_err-put_phrase-clause-cause
returns-in_err-put_phrase-clause-cause g c = cause_behind c.from_residual-in_err-put_phrase.result
    (le_trans (le_trans c.put.ensures.cause.later c.put_code.ensures.cause.later) c.put-2.ensures.cause.later)
    c.in_err-put_phrase.ensures.cause (λ is. refl)

pub returns-clause-left : goal.returns-clause-left
returns-clause-left g c = c.put_phrase.ensures.left ∙ (c.put-2.ensures.left ∙ (c.put_code.ensures.left ∙ c.put.ensures.left))

pub returns-clause-goes : goal.returns-clause-goes
returns-clause-goes g c = goes_on c.put.ensures.goes (goes_on c.put_code.ensures.goes
    (goes_on c.put-2.ensures.goes c.put_phrase.ensures.goes))

pub returns-clause-cause : goal.returns-clause-cause
returns-clause-cause g c = cause_behind (Ok tt) (le_trans (le_trans c.put.ensures.cause.later c.put_code.ensures.cause.later)
    c.put-2.ensures.cause.later) c.in_ok-put_phrase.ensures.cause (λ is. is)
