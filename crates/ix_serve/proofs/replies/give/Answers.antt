use Rattle.std.proofs.Common.{refl}
use Rattle.ix_serve.proofs.Answering.{not_clean}
use Rattle.ix_serve.proofs.replies.give.Goals as goal

pub returns-in-Err-clause-gave : goal.returns-in-Err-clause-gave
returns-in-Err-clause-gave g c = (
  c.in-Err.ensures.begun,
  λ clean. absurd (not_clean (g.K.Link.faults c.args.link.now) (g.K.Link.faults c.write_reply.new.link) (g.K.Link.standing c.args.link.now)
      (g.K.Link.standing c.write_reply.new.link) (c.in-Err.ensures.cause.failed refl) c.in-Err.ensures.side clean),
)
