use Rattle.std.proofs.Common.{ℤ, w64, ◌∙◌, subst, arith}
use Rattle.std.proofs.lemmas.Int.{to_z-of_z}
use Rattle.indexd_core.specs.Runs.{Runs, text_of}
use Rattle.indexd_core.specs.Sides.{side}
use Rattle.indexd_core.proofs.RunLemmas.{no-room}
use Rattle.indexd_core.proofs.preview.preview_lines.Goals as goal

pub returns-in_default-clause-runs : goal.returns-in_default-clause-runs
returns-in_default-clause-runs g c =
    no-room c.args.prepared c.args.moment
    (side (g.S.Source.faults c.args.input.now) (g.S.Source.left c.args.input.now))
    (side (g.W.Sink.faults c.args.output.now) (g.W.Sink.given c.args.output.now)) (omega arith)

pub returns-in_default-start-clause-runs : goal.returns-in_default-start-clause-runs
returns-in_default-start-clause-runs g c =
    no-room c.args.prepared c.args.moment
    (side (g.S.Source.faults c.args.input.now) (g.S.Source.left c.args.input.now))
    (side (g.W.Sink.faults c.args.output.now) (g.W.Sink.given c.args.output.now)) (omega arith)

pub returns-clause-runs : goal.returns-clause-runs
returns-clause-runs g c =
    subst
    (λ (m : ℤ). Runs c.run.result (text_of c.args.prepared m) (side (g.S.Source.faults c.args.input.now) (g.S.Source.left c.args.input.now))
    (side (g.S.Source.faults c.run.new.input) (g.S.Source.left c.run.new.input))
    (side (g.W.Sink.faults c.args.output.now) (g.W.Sink.given c.args.output.now))
    (side (g.W.Sink.faults c.run.new.output) (g.W.Sink.given c.run.new.output)))
    (c.in-Ok-start.ensures.moment ∙ to_z-of_z w64 c.args.moment c.ranges.moment)
    (c.run.ensures.run c.args.prepared c.in-Ok-start.ensures.holds)
