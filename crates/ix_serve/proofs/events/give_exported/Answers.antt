use Rattle.std.proofs.Common.{true, sym, subst}
use Rattle.ix_serve.specs.Exports.{reply_of}
use Rattle.ix_serve.specs.Serving.{Wrote, IsClean}
use Rattle.ix_serve.specs.declared.events.Exported.{Exported}
use Rattle.ix_serve.proofs.events.give_exported.Goals as goal

pub returns-in-TooLong-clause-gave : goal.returns-in-TooLong-clause-gave
returns-in-TooLong-clause-gave g c =
    let given = c.give_unread in
    subst (λ (x : Exported). Wrote (reply_of x) true (IsClean (g.K.Link.faults c.args.link.now) (g.K.Link.faults given.new.link)
    (g.K.Link.standing c.args.link.now) (g.K.Link.standing given.new.link)) given.result (g.K.Link.given c.args.link.now)
    (g.K.Link.given given.new.link))
    (sym c.in-TooLong.is) given.ensures.gave

pub returns-in-Refused-clause-gave : goal.returns-in-Refused-clause-gave
returns-in-Refused-clause-gave g c =
    let given = c.give_refusal in
    subst (λ (x : Exported). Wrote (reply_of x) true (IsClean (g.K.Link.faults c.args.link.now) (g.K.Link.faults given.new.link)
    (g.K.Link.standing c.args.link.now) (g.K.Link.standing given.new.link)) given.result (g.K.Link.given c.args.link.now)
    (g.K.Link.given given.new.link))
    (sym c.in-Refused.is) given.ensures.gave
