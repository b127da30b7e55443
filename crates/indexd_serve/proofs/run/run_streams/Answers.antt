use Rattle.std.proofs.Common.{rules, ◌∙◌, inr, ap, sym, subst}
use Rattle.std.specs.Prelude.{Ok, Err}
use Rattle.indexd_serve.specs.Ends.{fed_of, is_short}
use Rattle.indexd_serve.specs.Serving.{HasServed, Requests, exchange}
use Rattle.indexd_serve.specs.Sides.{IsSound}
use Rattle.indexd_serve.proofs.Opening.{served_as, requests_where}
use Rattle.indexd_serve.proofs.Ending.{told_end, of_disk, of_damaged, of_input, of_output, same_ok, same_err, read_failed, write_failed}
use Rattle.indexd_serve.proofs.Ending.{has_failed, along, along_two}
use Rattle.ix_sessions.specs.Reading.{ReadsTo}
use Rattle.ix_sessions.specs.declared.feed.Fed.{Fed}
use Rattle.indexd_serve.proofs.run.run_streams.Goals as goal
use Rattle.indexd_run.specs.Opened.{course}

pub returns-in-Ok-clause-served : goal.returns-in-Ok-clause-served
returns-in-Ok-clause-served g c = λ past chooser taken begins image seen.
    let has = c.in-Ok.ensures.served past chooser taken begins image seen in
    let requests = has.served in
    let told = served_as g.D.Disk g.M.StoreMemory.takes _ past _ _
    (Requests g.D.Disk g.M.Book.ManifestState.fits (fed_of c.end_of.result)
    (IsSound (g.W.Sink.faults c.new-link.result.sink.now) (g.W.Sink.faults c.run_feed.new.link.sink.now))
    (exchange (g.S.Source.left c.new-link.result.source.now) (g.S.Source.left c.run_feed.new.link.source.now)
    (g.W.Sink.given c.new-link.result.sink.now) (g.W.Sink.given c.run_feed.new.link.sink.now))) has
    (requests_where g.D.Disk _ c.in-Ok.fed (fed_of c.end_of.result) _ _ _ _ (λ sound. inr sound)
    (ap fed_of c.end_of.ensures ∙ told_end c.in-Ok.fed c.run_feed.new.link.failed) requests) in
    along (λ s s' w w'. HasServed g.D.Disk g.M.StoreMemory.takes g.M.Book.ManifestState.fits past
    (course c.args.config (g.C.Clock.ahead c.args.clock.now) (g.C.Clock.ahead c.run_feed.new.clock) c.args.disk.now c.run_feed.new.disk)
    (Requests g.D.Disk g.M.Book.ManifestState.fits (fed_of c.end_of.result) (IsSound (g.W.Sink.faults w) (g.W.Sink.faults w'))
    (exchange (g.S.Source.left s) (g.S.Source.left s') (g.W.Sink.given w) (g.W.Sink.given w'))))
    c.new-link.ensures.read (search rules) c.new-link.ensures.written (search rules) told

pub returns-in-Ok-clause-short : goal.returns-in-Ok-clause-short
returns-in-Ok-clause-short g c = λ is. c.in-Ok.ensures.short
    (ap is_short (sym (told_end c.in-Ok.fed c.run_feed.new.link.failed) ∙ ap fed_of (sym c.end_of.ensures)) ∙ is)

pub returns-in-Ok-clause-unbroken : goal.returns-in-Ok-clause-unbroken
returns-in-Ok-clause-unbroken g c = λ file at is. c.run_feed.ensures.unbroken file at (c.in-Ok.is
    ∙ ap (λ e. Ok e) (of_damaged c.in-Ok.fed c.run_feed.new.link.failed file at (sym c.end_of.ensures ∙ same_ok is)))

pub returns-in-Ok-clause-disk : goal.returns-in-Ok-clause-disk
returns-in-Ok-clause-disk g c = λ is. c.run_feed.ensures.disk (c.in-Ok.is
    ∙ ap (λ e. Ok e) (of_disk c.in-Ok.fed c.run_feed.new.link.failed (sym c.end_of.ensures ∙ same_ok is)))

pub returns-in-Ok-clause-input : goal.returns-in-Ok-clause-input
returns-in-Ok-clause-input g c = λ is.
    let at = of_input c.in-Ok.fed c.run_feed.new.link.failed (sym c.end_of.ensures ∙ same_ok is) in
    let rose = read_failed c.run_feed.ensures.goes c.new-link.ensures.failed at.1 in
    search (rules, rose)

pub returns-in-Ok-clause-output : goal.returns-in-Ok-clause-output
returns-in-Ok-clause-output g c = λ is.
    let at = of_output c.in-Ok.fed c.run_feed.new.link.failed (sym c.end_of.ensures ∙ same_ok is) in
    let failed = c.run_feed.ensures.link (c.in-Ok.is ∙ ap (λ e. Ok e) at.0) in
    let rose = write_failed c.run_feed.ensures.goes c.new-link.ensures.failed
    (has_failed c.new-link.result.failed c.run_feed.new.link.failed c.new-link.ensures.failed failed at.1) in
    search (rules, rose)

pub returns-in-Err-clause-undamaged : goal.returns-in-Err-clause-undamaged
returns-in-Err-clause-undamaged g c = λ file at is. c.run_feed.ensures.undamaged file at (c.in-Err.is ∙ ap (λ s. Err s) (same_err is))

pub returns-in-Err-clause-sound : goal.returns-in-Err-clause-sound
returns-in-Err-clause-sound g c = λ is. c.run_feed.ensures.sound (c.in-Err.is ∙ ap (λ s. Err s) (same_err is))

pub returns-in-Ok-clause-reads : goal.returns-in-Ok-clause-reads
returns-in-Ok-clause-reads g c =
    let same = ap fed_of c.end_of.ensures ∙ told_end c.in-Ok.fed c.run_feed.new.link.failed in
    let told = subst (λ (e : Fed). ReadsTo e (g.S.Source.left c.new-link.result.source.now)
    (g.S.Source.left c.run_feed.new.link.source.now)) (sym same) c.in-Ok.ensures.reads in
    along_two (λ s s'. ReadsTo (fed_of c.end_of.result) (g.S.Source.left s) (g.S.Source.left s')) c.new-link.ensures.read (search rules)
    told

pub returns-in-Ok-clause-placed : goal.returns-in-Ok-clause-placed
returns-in-Ok-clause-placed g c = λ file at is. c.run_feed.ensures.placed file at (c.in-Ok.is
    ∙ ap (λ e. Ok e) (of_damaged c.in-Ok.fed c.run_feed.new.link.failed file at (sym c.end_of.ensures ∙ same_ok is)))
