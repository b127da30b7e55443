use Rattle.std.proofs.lemmas.Result.{err_from_is_err_and}
use Rattle.indexd_core.specs.Sides.{side}
use Rattle.indexd_core.proofs.PreviewLemmas.{ends-all, end-stops}
use Rattle.indexd_core.proofs.preview.Preview.finish.Goals as goal

pub returns-in_err-put-clause-stopped : goal.returns-in_err-put-clause-stopped
returns-in_err-put-clause-stopped g c =
    let p = err_from_is_err_and c.from_residual.result c.from_residual.ensures.1 in
    rw (p.1, p.2) (end-stops c.in_err-put.field-0.0 c.args.self.now c.in-Ok.routed
    (side (g.W.Sink.faults c.args.output.now) (g.W.Sink.given c.args.output.now))
    (side (g.W.Sink.faults c.put.new.output) (g.W.Sink.given c.put.new.output))
    c.in-Ok.ensures.settles c.in_err-put.ensures.stopped)

pub returns-clause-all : goal.returns-clause-all
returns-clause-all g c =
    ends-all c.args.self.now c.in-Ok.routed
    (side (g.W.Sink.faults c.args.output.now) (g.W.Sink.given c.args.output.now))
    (side (g.W.Sink.faults c.put.new.output) (g.W.Sink.given c.put.new.output))
    c.in-Ok.ensures.settles c.in_ok-put.ensures.written
