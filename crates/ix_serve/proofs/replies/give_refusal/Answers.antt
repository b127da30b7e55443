use Rattle.std.proofs.Common.{ap}
use Rattle.ix_http.specs.declared.kinds.Kind.TheVariants.{Json}
use Rattle.ix_serve.specs.Bodies.{error_body}
use Rattle.ix_serve.specs.Serving.{IsClean}
use Rattle.ix_serve.proofs.Answering.{gave_as}
use Rattle.ix_serve.proofs.replies.give_refusal.Goals as goal

pub returns-clause-gave : goal.returns-clause-gave
returns-clause-gave g c = gave_as _ _ Json _ _ _ (IsClean (g.K.Link.faults c.args.link.now) (g.K.Link.faults c.give_error.new.link)
    (g.K.Link.standing c.args.link.now) (g.K.Link.standing c.give_error.new.link)) _
    (g.K.Link.given c.args.link.now) (g.K.Link.given c.give_error.new.link) c.refusal_status.ensures
    (ap error_body c.refusal_name.ensures.name) c.give_error.ensures.gave
