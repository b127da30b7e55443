use Rattle.std.proofs.Common.{refl, ◌∙◌}
use Rattle.ix_http.specs.declared.kinds.Kind.TheVariants.{Json}
use Rattle.ix_serve.specs.Serving.{IsClean}
use Rattle.ix_serve.proofs.Answering.{gave_as}
use Rattle.ix_serve.proofs.replies.give_error.Goals as goal

pub returns-clause-gave : goal.returns-clause-gave
returns-clause-gave g c = gave_as _ _ Json _ _ _ (IsClean (g.K.Link.faults c.args.link.now) (g.K.Link.faults c.give.new.link)
    (g.K.Link.standing c.args.link.now) (g.K.Link.standing c.give.new.link)) _
    (g.K.Link.given c.args.link.now) (g.K.Link.given c.give.new.link) refl (c.as_bytes.ensures.value ∙ c.as_str.ensures.value
    ∙ c.error_body-body.ensures) c.give.ensures.gave
