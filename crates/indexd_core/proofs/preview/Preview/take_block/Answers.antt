use Rattle.std.proofs.Common.{rules, take, w64, refl}
use mir.Val.{SFits}
use Rattle.std.proofs.lemmas.Int.{to_z-of_z}
use Rattle.std.proofs.lemmas.Result.{err_from_is_err_and}
use Rattle.indexd_core.specs.Sides.{side}
use Rattle.indexd_core.proofs.PreviewLemmas.{advances, stops}
use Rattle.indexd_core.proofs.preview.Preview.take_block.Goals as goal

pub returns-in_err-put-clause-stopped : goal.returns-in_err-put-clause-stopped
returns-in_err-put-clause-stopped g c =
    let p = err_from_is_err_and c.from_residual.result c.from_residual.ensures.1 in
    let f : SFits w64 c.args.self.now.moment = search rules in
    rw (p.1, p.2) (stops c.in_err-put.field-0.0 c.args.self.now c.in-Ok-fed.fed.0 (take c.in-Ok.n c.read.new.buf) c.in-Ok-fed.fed.1
    (side (g.S.Source.faults c.args.input.now) (g.S.Source.left c.args.input.now))
    (side (g.S.Source.faults c.read.new.self) (g.S.Source.left c.read.new.self))
    (side (g.W.Sink.faults c.args.output.now) (g.W.Sink.given c.args.output.now))
    (side (g.W.Sink.faults c.put.new.output) (g.W.Sink.given c.put.new.output))
    c.in-Ok.ensures.bytes (simp to_z-of_z at c.in-Ok-fed.ensures.settles) c.in_err-put.ensures.stopped)

pub returns-clause-taken : goal.returns-clause-taken
returns-clause-taken g c =
    let f : SFits w64 c.args.self.now.moment = search rules in (
      c.in-Ok.ensures.count,
      advances c.args.self.now _ (take c.in-Ok.n c.read.new.buf) c.in-Ok-fed.fed.1
          (side (g.S.Source.faults c.args.input.now) (g.S.Source.left c.args.input.now))
          (side (g.S.Source.faults c.read.new.self) (g.S.Source.left c.read.new.self))
          (side (g.W.Sink.faults c.args.output.now) (g.W.Sink.given c.args.output.now))
          (side (g.W.Sink.faults c.put.new.output) (g.W.Sink.given c.put.new.output))
          refl c.put.ensures.limits c.in-Ok.ensures.bytes c.in_ok-put.ensures.written (simp to_z-of_z at c.in-Ok-fed.ensures.settles),
    )
