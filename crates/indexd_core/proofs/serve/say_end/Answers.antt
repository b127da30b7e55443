use Rattle.std.proofs.Common.{subst, sym}
use Rattle.indexd_serve.specs.declared.end.ServeEnd.{ServeEnd}
use Rattle.indexd_core.specs.Serves.{EndsServing}
use Rattle.indexd_core.specs.Sides.{side}
use Rattle.indexd_core.proofs.serve.say_end.Goals as goal

pub returns-in-Done-clause-said : goal.returns-in-Done-clause-said
returns-in-Done-clause-said g c =
    subst (λ (end : ServeEnd). EndsServing c.say_served.result c.args.requests end
    (side (g.W.Sink.faults c.args.output.now) (g.W.Sink.given c.args.output.now))
    (side (g.W.Sink.faults c.say_served.new.output) (g.W.Sink.given c.say_served.new.output))) (sym c.in-Done.is) c.say_served.ensures.said
