use Rattle.std.proofs.Common.{subst}
use Rattle.indexd_core.specs.Prepared.{Unprepared}
use Rattle.indexd_core.specs.Sides.{side}
use Rattle.indexd_core.specs.declared.prepare.PrepareStop.{PrepareStop}
use Rattle.indexd_core.proofs.StopLemmas.{not-found}
use Rattle.indexd_core.proofs.prepare.say_stop.Goals as goal

pub returns-in-NotFound-clause-said : goal.returns-in-NotFound-clause-said
returns-in-NotFound-clause-said g c = λ stated files failed failed' found.
    not-found c.not_found_line-line.result c.as_slice.result.now c.in-NotFound.index c.say_line-in-NotFound.result
    (side (g.W.Sink.faults c.args.output.now) (g.W.Sink.given c.args.output.now))
    (side (g.W.Sink.faults c.say_line-in-NotFound.new.output) (g.W.Sink.given c.say_line-in-NotFound.new.output))
    c.as_slice.ensures c.not_found_line-line.ensures c.say_line-in-NotFound.ensures.line c.say_line-in-NotFound.ensures.no_line
    stated files failed failed' (subst (λ (s : PrepareStop). Unprepared s stated failed failed' files) c.in-NotFound.is found)
