use Rattle.std.proofs.lemmas.Result.{IfOk-weaker, IfErr-weaker}
use Rattle.ix_apply.proofs.Following.{follows}
use Rattle.ix_apply.proofs.state_machine.StateMachineStoreMemory.prepare.Goals as goal

pub returns-clause-made : goal.returns-clause-made
returns-clause-made c = IfOk-weaker c.make_order.result _ _
    (λ made makes choose history chooser given h. follows choose history c.args.order c.args.drawn c.args.self.now.held made
    (makes choose history c.args.drawn
    (record {
      chooser = chooser;
      given = given;
      taken = c.requires;
      holds = h.state;
      no_cause = c.in_default.ensures.free.no_cause choose history h.state;
    })
    c.in_default.ensures.free.number))
    c.make_order.ensures.made

pub returns-clause-refused : goal.returns-clause-refused
returns-clause-refused c = IfErr-weaker c.make_order.result _ _
    (λ refusal refuses choose history chooser given h. refuses choose history c.args.drawn
    (record {
      chooser = chooser;
      given = given;
      taken = c.requires;
      holds = h.state;
      no_cause = c.in_default.ensures.free.no_cause choose history h.state;
    }))
    c.make_order.ensures.refused
