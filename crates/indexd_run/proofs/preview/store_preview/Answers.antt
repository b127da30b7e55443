use Rattle.std.proofs.Common.{◌≡◌, ◌∙◌, Ok, Err, ap, subst, false, refl, le_refl, le_trans}
use Rattle.std.specs.Prelude.{Some}
use Rattle.ix_run.proofs.Stored.{all_taken}
use Rattle.indexd_run.specs.Previews.{Fed}
use Rattle.indexd_run.specs.Stops.{loses, loses_in, is_output}
use Rattle.indexd_run.specs.declared.stop.Stop.{Stop}
use Rattle.indexd_run.specs.declared.stop.Stop.TheVariants as stops
use Rattle.ix_commit.proofs.Reading.{anyhow_through}
use Rattle.ix_disk.proofs.Runs.{rose_later}
use Rattle.indexd_run.proofs.Blaming.{place_still}
use Rattle.indexd_run.proofs.Tasks.{if_err_by, at_err}
use Rattle.indexd_run.proofs.Shortening.{damaged_end, short_end, ends_short, stopped_short, fed_taken, fed_end, fed_stop, by_end, by_fault}
use Rattle.indexd_run.proofs.Shortening.{rose_by_end}
use Rattle.indexd_run.proofs.preview.store_preview.Goals as goal

pub returns-in-Ok-clause-ends : goal.returns-in-Ok-clause-ends
returns-in-Ok-clause-ends g c = λ choose h base chooser taken hold.
    ends_short g.D.Disk _ c.args.store.now.run g.M.StoreMemory.holds g.M.StoreMemory.takes choose h base c.store_all.new.store
    c.make_short.new.store c.args.disk.now c.store_all.new.disk c.make_short.new.disk
    c.make_short.ensures.run (λ now all held. c.make_short.ensures.images choose now base chooser all held) (loses_in c.make_short.result)
    (Fed choose base h c.args.arrival.origin c.args.arrival.moment (Ok tt) (g.S.Source.left c.args.input.now)
    (g.S.Source.left c.store_all.new.input))
    (Fed choose base h c.args.arrival.origin c.args.arrival.moment c.make_short.result (g.S.Source.left c.args.input.now)
    (g.S.Source.left c.store_all.new.input))
    (λ orders fed. fed_end choose base h c.args.arrival.origin c.args.arrival.moment c.make_short.result _ _ orders
    c.make_short.ensures.faults fed)
    (λ orders fed. all_taken g.M.StoreMemory.takes g.met.M.StoreMemory.ticks_are_taken choose h orders taken
    (fed_taken g.M.StoreMemory.takes choose base h c.args.arrival.origin c.args.arrival.moment (Ok tt) _ _ orders c.requires.ends
    c.requires.begins c.requires.adds fed))
    (λ kept now all held. c.make_short.ensures.held kept choose now base chooser all held)
    (c.in-Ok.ensures.ends choose h base chooser taken hold)

pub returns-in-Ok-clause-short : goal.returns-in-Ok-clause-short
returns-in-Ok-clause-short g c = λ ok. short_end c.make_short.result _ ok c.make_short.ensures.faults c.make_short.ensures.short

pub returns-in-Err-clause-ends : goal.returns-in-Err-clause-ends
returns-in-Err-clause-ends g c = λ choose h base chooser taken hold.
    stopped_short g.D.Disk _ c.args.store.now.run g.M.StoreMemory.holds g.M.StoreMemory.takes choose h base c.store_all.new.store
    c.stop_run.new.store c.args.disk.now c.store_all.new.disk c.stop_run.new.disk
    c.in-Err.stop c.stop_run.result
    (Fed choose base h c.args.arrival.origin c.args.arrival.moment (Err c.in-Err.stop) (g.S.Source.left c.args.input.now)
    (g.S.Source.left c.store_all.new.input))
    (Fed choose base h c.args.arrival.origin c.args.arrival.moment (Err c.stop_run.result) (g.S.Source.left c.args.input.now)
    (g.S.Source.left c.store_all.new.input))
    (λ orders fed. fed_stop choose base h c.args.arrival.origin c.args.arrival.moment c.in-Err.stop c.stop_run.result _ _ orders
    c.stop_run.ensures.why fed)
    (λ orders fed. all_taken g.M.StoreMemory.takes g.met.M.StoreMemory.ticks_are_taken choose h orders taken
    (fed_taken g.M.StoreMemory.takes choose base h c.args.arrival.origin c.args.arrival.moment (Err c.in-Err.stop) _ _ orders
    c.requires.ends c.requires.begins c.requires.adds fed))
    c.stop_run.ensures.run c.stop_run.ensures.closed (λ kept now all held. c.stop_run.ensures.images kept choose now base chooser all held)
    (λ kept also now all held. c.stop_run.ensures.held kept also choose now base chooser all held)
    (c.in-Err.ensures.ends choose h base chooser taken hold)

pub returns-in-Err-clause-undamaged : goal.returns-in-Err-clause-undamaged
returns-in-Err-clause-undamaged g c = λ file at is choose h base chooser taken hold image seen.
    let blamed = damaged_end c.in-Err.stop c.stop_run.result file at c.stop_run.ensures.why is in
    let same = c.stop_run.ensures.closed (ap loses blamed) in
    c.store_all.ensures.undamaged file at (c.in-Err.is ∙ ap (λ (s : Stop). Err s) blamed) choose h base chooser taken hold image
    (subst (λ d. g.D.Disk.seen d ≡ Some image) same.1.1 seen)

-- ---- the clauses that speak of the disk and of the output

pub returns-in-Ok-clause-told : goal.returns-in-Ok-clause-told
returns-in-Ok-clause-told g c = anyhow_through (g.D.Disk.seen c.args.disk.now) (g.D.Disk.seen c.store_all.new.disk)
    (g.D.Disk.seen c.make_short.new.disk) c.store_all.ensures.told c.make_short.ensures.told

pub returns-in-Ok-clause-later : goal.returns-in-Ok-clause-later
returns-in-Ok-clause-later g c = le_trans c.store_all.ensures.later c.make_short.ensures.later

pub returns-in-Ok-clause-cause : goal.returns-in-Ok-clause-cause
returns-in-Ok-clause-cause g c = λ is. rose_later (g.D.Disk.faults c.args.disk.now) (g.D.Disk.faults c.store_all.new.disk)
    (g.D.Disk.faults c.make_short.new.disk) c.store_all.ensures.later (c.make_short.ensures.cause is)

pub returns-in-Ok-clause-quiet : goal.returns-in-Ok-clause-quiet
returns-in-Ok-clause-quiet g c = if_err_by c.make_short.result _
    (λ stop is. by_fault (λ (s : Stop). is_output s ≡ false) stop refl refl
    (at_err c.make_short.result stop _ is c.make_short.ensures.faults))

pub returns-in-Err-clause-told : goal.returns-in-Err-clause-told
returns-in-Err-clause-told g c = anyhow_through (g.D.Disk.seen c.args.disk.now) (g.D.Disk.seen c.store_all.new.disk)
    (g.D.Disk.seen c.stop_run.new.disk) c.store_all.ensures.told c.stop_run.ensures.told

pub returns-in-Err-clause-later : goal.returns-in-Err-clause-later
returns-in-Err-clause-later g c = le_trans c.store_all.ensures.later c.stop_run.ensures.later

pub returns-in-Err-clause-cause : goal.returns-in-Err-clause-cause
returns-in-Err-clause-cause g c = λ is.
    let at : c.stop_run.result ≡ stops.Disk = cc (is) in
    rose_by_end (g.D.Disk.faults c.args.disk.now) (g.D.Disk.faults c.args.disk.now) (g.D.Disk.faults c.store_all.new.disk)
    (g.D.Disk.faults c.stop_run.new.disk) c.in-Err.stop (le_refl (g.D.Disk.faults c.args.disk.now)) c.store_all.ensures.later
    c.stop_run.ensures.later
    (λ stop. c.store_all.ensures.cause (c.in-Err.is ∙ ap (λ (s : Stop). Err s) stop)) (c.stop_run.ensures.cause at)

pub returns-in-Err-clause-quiet : goal.returns-in-Err-clause-quiet
returns-in-Err-clause-quiet g c =
    by_end (λ (stop : Stop). is_output stop ≡ false) c.in-Err.stop c.stop_run.result c.in-Err.ensures.quiet refl refl c.stop_run.ensures.why

pub returns-in-Err-clause-placed : goal.returns-in-Err-clause-placed
returns-in-Err-clause-placed g c = λ file at is.
    let blamed = damaged_end c.in-Err.stop c.stop_run.result file at c.stop_run.ensures.why is in
    place_still g.D.Disk c.store_all.new.disk c.stop_run.new.disk file at (c.stop_run.ensures.closed (ap loses blamed)).1.1
    (c.store_all.ensures.placed file at (c.in-Err.is ∙ ap (λ (s : Stop). Err s) blamed))
