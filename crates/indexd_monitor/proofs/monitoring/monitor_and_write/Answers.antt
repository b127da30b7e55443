use Rattle.std.proofs.Common.{◌≡◌, ◌∙◌, ap, sym, subst, true, false, refl, true≢false, List, ℕ}
use Rattle.std.specs.Prelude.{Result, Ok, Err, OnOk, OnErr}
use Rattle.ix_base.specs.Told.{HasWritten, HasBegun}
use Rattle.indexd_run.proofs.Tasks.{ends_weaker, if_err_by, at_err, at_stop}
use Rattle.indexd_run.specs.Opened.{giving}
use Rattle.indexd_run.specs.Stops.{loses, is_output}
use Rattle.indexd_run.specs.declared.stop.Stop.{Stop}
use Rattle.indexd_run.specs.declared.stop.Stop.TheVariants as stops
use Rattle.indexd_monitor.proofs.Visited.{said, unsaid, said_behind}
use Rattle.indexd_monitor.specs.Monitored.{HasText, HasVisited, HasMonitored, AndTaken}
use Rattle.indexd_monitor.proofs.monitoring.monitor_and_write.Goals as goal

not_both : (stop : Stop) → stop ≡ stops.Output → is_output stop ≡ false → ⊥
not_both stop is not = true≢false (sym (ap is_output is) ∙ not)

same_stop : {T : Type 0} {stop other : Stop} → ◌≡◌ {A = Result T Stop} (Err stop) (Err other) → stop ≡ other
same_stop is = cc

pub returns-in-Ok-clause-ends : goal.returns-in-Ok-clause-ends
returns-in-Ok-clause-ends g c = λ choose h base chooser taken hold.
    let visited = HasVisited {T = List ℕ} choose (g.T.Tree.files c.args.tree.now) c.args.watch.inputs.now c.args.watch.close
    (Ok c.in-Ok.text) (HasText (Ok c.in-Ok.text)) (g.C.Clock.ahead c.monitor.new.clock) in
    let behind = HasMonitored choose (g.T.Tree.files c.args.tree.now) c.args.watch.inputs.now c.args.watch.close c.write_lines.result
    (g.C.Clock.ahead c.monitor.new.clock) (g.W.Sink.given c.args.output.now) (g.W.Sink.given c.write_lines.new.output) in
    let written = subst (λ (text : List ℕ). OnOk c.write_lines.result
    (HasWritten text (g.W.Sink.given c.args.output.now) (g.W.Sink.given c.write_lines.new.output))) c.as_slice.ensures
    c.write_lines.ensures.written in
    let begun = subst (λ (text : List ℕ). OnErr c.write_lines.result
    (HasBegun text (g.W.Sink.given c.args.output.now) (g.W.Sink.given c.write_lines.new.output))) c.as_slice.ensures
    c.write_lines.ensures.begun in
    said_behind g.D.Disk _ c.args.store.now.run g.M.StoreMemory.holds choose h base c.monitor.new.store c.args.disk.now c.monitor.new.disk
    c.write_lines.result
    (AndTaken g.M.StoreMemory.takes visited base (g.C.Clock.ahead c.args.clock.now) h)
    (AndTaken g.M.StoreMemory.takes behind base (g.C.Clock.ahead c.args.clock.now) h)
    c.write_lines.ensures.why
    (λ orders was. (
      said choose (g.T.Tree.files c.args.tree.now) c.args.watch.inputs.now c.args.watch.close (g.C.Clock.ahead c.monitor.new.clock)
          (giving base (g.C.Clock.ahead c.args.clock.now) h orders) c.in-Ok.text c.write_lines.result (g.W.Sink.given c.args.output.now)
          (g.W.Sink.given c.write_lines.new.output) written begun c.write_lines.ensures.why was.0,
      was.1,
    ))
    (c.in-Ok.ensures.ends choose h base chooser taken hold)

pub returns-in-Ok-clause-quiet : goal.returns-in-Ok-clause-quiet
returns-in-Ok-clause-quiet g c = if_err_by c.write_lines.result _
    (λ stop is. λ not. absurd (not_both stop (at_err c.write_lines.result stop _ is c.write_lines.ensures.why) not))

pub returns-in-Ok-clause-short : goal.returns-in-Ok-clause-short
returns-in-Ok-clause-short g c = λ ok. c.in-Ok.ensures.short refl

pub returns-in-Ok-clause-undamaged : goal.returns-in-Ok-clause-undamaged
returns-in-Ok-clause-undamaged g c = λ file at is.
    let blamed = at_err c.write_lines.result (stops.Damaged file at) _ is c.write_lines.ensures.why in absurd (cc (blamed))

pub returns-in-Ok-clause-placed : goal.returns-in-Ok-clause-placed
returns-in-Ok-clause-placed g c = λ file at is.
    let blamed = at_err c.write_lines.result (stops.Damaged file at) _ is c.write_lines.ensures.why in absurd (cc (blamed))

pub returns-in-Ok-clause-cause : goal.returns-in-Ok-clause-cause
returns-in-Ok-clause-cause g c = λ is.
    let blamed = at_err c.write_lines.result stops.Disk _ is c.write_lines.ensures.why in absurd (cc (blamed))

pub returns-in-Ok-clause-input : goal.returns-in-Ok-clause-input
returns-in-Ok-clause-input g c = λ is.
    let blamed = at_err c.write_lines.result stops.Input _ is c.write_lines.ensures.why in absurd (cc (blamed))

pub returns-in-Ok-clause-finite : goal.returns-in-Ok-clause-finite
returns-in-Ok-clause-finite g c = λ is.
    let blamed = at_err c.write_lines.result stops.Endless _ is c.write_lines.ensures.why in cc (blamed)

pub returns-in-Ok-clause-output : goal.returns-in-Ok-clause-output
returns-in-Ok-clause-output g c = λ is. at_stop c.write_lines.result stops.Output _ is c.write_lines.ensures.cause

pub returns-in-Err-clause-ends : goal.returns-in-Err-clause-ends
returns-in-Err-clause-ends g c = λ choose h base chooser taken hold.
    let visited = HasVisited {T = List ℕ} choose (g.T.Tree.files c.args.tree.now) c.args.watch.inputs.now c.args.watch.close
    (Err c.in-Err.stop) (HasText (Err c.in-Err.stop)) (g.C.Clock.ahead c.monitor.new.clock) in
    let behind = HasMonitored choose (g.T.Tree.files c.args.tree.now) c.args.watch.inputs.now c.args.watch.close (Err c.in-Err.stop)
    (g.C.Clock.ahead c.monitor.new.clock) (g.W.Sink.given c.args.output.now) (g.W.Sink.given c.args.output.now) in
    ends_weaker g.D.Disk _ c.args.store.now.run g.M.StoreMemory.holds choose h base c.monitor.new.store c.args.disk.now c.monitor.new.disk
    (loses c.in-Err.stop)
    (AndTaken g.M.StoreMemory.takes visited base (g.C.Clock.ahead c.args.clock.now) h)
    (AndTaken g.M.StoreMemory.takes behind base (g.C.Clock.ahead c.args.clock.now) h)
    (λ orders was. (
      unsaid choose (g.T.Tree.files c.args.tree.now) c.args.watch.inputs.now c.args.watch.close (g.C.Clock.ahead c.monitor.new.clock)
          (giving base (g.C.Clock.ahead c.args.clock.now) h orders) c.in-Err.stop (g.W.Sink.given c.args.output.now) c.in-Err.ensures.quiet
          was.0,
      was.1,
    ))
    (c.in-Err.ensures.ends choose h base chooser taken hold)

pub returns-in-Err-clause-undamaged : goal.returns-in-Err-clause-undamaged
returns-in-Err-clause-undamaged g c = λ file at is.
    c.monitor.ensures.undamaged file at (c.in-Err.is ∙ ap (λ (s : Stop). Err s) (same_stop is))

pub returns-in-Err-clause-output : goal.returns-in-Err-clause-output
returns-in-Err-clause-output g c = λ is. absurd (not_both c.in-Err.stop (same_stop is) c.in-Err.ensures.quiet)
