use Rattle.std.proofs.Common.{sym, subst, arith}
use Rattle.indexd_core.specs.Sides.{side}
use Rattle.indexd_core.specs.Runs.{Runs, text_of}
use Rattle.indexd_core.specs.declared.status.Status.{Status}
use Rattle.indexd_core.proofs.RunLemmas.{stopped, endless, done, stopped-at-end}
use Rattle.indexd_core.proofs.preview.Preview.run.Goals as goal

pub returns-in-Ok-false-clause-run : goal.returns-in-Ok-false-clause-run
returns-in-Ok-false-clause-run g c = λ prepared holds.
    endless prepared c.read_all.new.self c.args.self.now.moment
    (side (g.S.Source.faults c.args.input.now) (g.S.Source.left c.args.input.now))
    (side (g.S.Source.faults c.read_all.new.input) (g.S.Source.left c.read_all.new.input))
    (side (g.W.Sink.faults c.args.output.now) (g.W.Sink.given c.args.output.now))
    (side (g.W.Sink.faults c.read_all.new.output) (g.W.Sink.given c.read_all.new.output))
    c.read_all.ensures.written_later
    c.in-Ok-false.ensures.moment (rw c.in-Ok-false.field-0-test at (c.in-Ok-false.ensures.all prepared holds))

pub returns-in-Err-clause-run : goal.returns-in-Err-clause-run
returns-in-Err-clause-run g c = λ prepared holds.
    let input = side (g.S.Source.faults c.args.input.now) (g.S.Source.left c.args.input.now) in
    let input' = side (g.S.Source.faults c.read_all.new.input) (g.S.Source.left c.read_all.new.input) in
    let output = side (g.W.Sink.faults c.args.output.now) (g.W.Sink.given c.args.output.now) in
    let output' = side (g.W.Sink.faults c.read_all.new.output) (g.W.Sink.given c.read_all.new.output) in
    subst (λ (s : Status). Runs s (text_of prepared c.args.self.now.moment) input input' output output') (sym c.status.ensures)
    (stopped c.in-Err.stop (text_of prepared c.args.self.now.moment) input input' output output' c.read_all.ensures.written_later
    (c.in-Err.ensures.stopped prepared holds))

pub returns-in-Ok-clause-run : goal.returns-in-Ok-clause-run
returns-in-Ok-clause-run g c = λ prepared holds.
    done prepared c.read_all.new.self c.args.self.now.moment
    (side (g.S.Source.faults c.args.input.now) (g.S.Source.left c.args.input.now))
    (side (g.S.Source.faults c.read_all.new.input) (g.S.Source.left c.read_all.new.input))
    (side (g.W.Sink.faults c.args.output.now) (g.W.Sink.given c.args.output.now))
    (side (g.W.Sink.faults c.read_all.new.output) (g.W.Sink.given c.read_all.new.output))
    (side (g.W.Sink.faults c.finish.new.output) (g.W.Sink.given c.finish.new.output))
    (omega (arith, c.read_all.ensures.written_later, c.finish.ensures.later))
    c.in-Ok-true.ensures.moment (rw c.in-Ok-true.field-0-test at (c.in-Ok-true.ensures.all prepared holds)) c.in-Ok.ensures.all

pub returns-clause-run : goal.returns-clause-run
returns-clause-run g c = λ prepared holds.
    let input = side (g.S.Source.faults c.args.input.now) (g.S.Source.left c.args.input.now) in
    let input' = side (g.S.Source.faults c.read_all.new.input) (g.S.Source.left c.read_all.new.input) in
    let output = side (g.W.Sink.faults c.args.output.now) (g.W.Sink.given c.args.output.now) in
    let middle = side (g.W.Sink.faults c.read_all.new.output) (g.W.Sink.given c.read_all.new.output) in
    let output' = side (g.W.Sink.faults c.finish.new.output) (g.W.Sink.given c.finish.new.output) in
    subst (λ (s : Status). Runs s (text_of prepared c.args.self.now.moment) input input' output output')
    (sym c.status-in-Err-finish.ensures)
    (stopped-at-end c.in-Err-finish.stop prepared c.read_all.new.self c.args.self.now.moment input input' output middle output'
    c.read_all.ensures.written_later (omega (arith, c.read_all.ensures.written_later, c.finish.ensures.later))
    c.in-Ok-true.ensures.moment
    (rw c.in-Ok-true.field-0-test at (c.in-Ok-true.ensures.all prepared holds)) c.in-Err-finish.ensures.stopped)
