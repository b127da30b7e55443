use Rattle.std.proofs.Common.{ℕ, List, Err, sym, subst, true}
use Rattle.ix_http.specs.declared.kinds.Kind.TheVariants.{Json}
use Rattle.ix_serve.specs.Answer.{answer_of_fault}
use Rattle.ix_serve.specs.Bodies.{error_body}
use Rattle.ix_serve.specs.Replies.{reply, broken}
use Rattle.ix_serve.specs.Serving.{Wrote, IsClean}
use Rattle.ix_serve.specs.declared.served.ServeFault.{ServeFault}
use Rattle.ix_serve.proofs.Answering.{gave_up}
use Rattle.ix_serve.proofs.replies.give_up.Goals as goal

pub returns-clause-gave : goal.returns-clause-gave
returns-clause-gave g c =
    let clean = IsClean (g.K.Link.faults c.args.link.now) (g.K.Link.faults c.give_error.new.link) (g.K.Link.standing c.args.link.now)
    (g.K.Link.standing c.give_error.new.link) in
    subst (λ (f : ServeFault). Wrote (broken c.args.cause) true clean (Err f) (g.K.Link.given c.args.link.now)
    (g.K.Link.given c.give_error.new.link)) (sym c.answer_of_fault.ensures)
    (subst (λ (name : List ℕ). Wrote (reply 500 Json (error_body name)) true clean (Err (answer_of_fault c.args.cause))
    (g.K.Link.given c.args.link.now) (g.K.Link.given c.give_error.new.link)) c.commit_name.ensures.name
    (gave_up (reply 500 Json (error_body c.commit_name.result.now)) true clean c.give_error.result c.args.cause
    (g.K.Link.given c.args.link.now) (g.K.Link.given c.give_error.new.link)
    c.give_error.ensures.gave))
