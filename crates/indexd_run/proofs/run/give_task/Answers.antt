use Rattle.std.proofs.Common.{rules, ◌≡◌, ◌∙◌, ℕ, true, false, Ok, Err, ap, sym, subst, w64, refl, le_refl, le_trans, true≢false}
use Rattle.std.specs.Prelude.{Some}
use Rattle.std.proofs.lemmas.Int.{to_z-of_z}
use mir.Val.{SFits}
use Rattle.ix_run.proofs.Stored.{all_taken}
use Rattle.ix_base.specs.declared.files.File.{File}
use Rattle.indexd_run.specs.Shortened.{is_short_at, IsOfCheckpoint}
use Rattle.indexd_run.specs.Stops.{loses, is_output, is_input}
use Rattle.indexd_run.specs.Tasks.{orders_in, Gave, IsWhy}
use Rattle.indexd_run.specs.declared.stop.Stop.{Stop}
use Rattle.indexd_run.specs.declared.stop.Stop.TheVariants as stops
use Rattle.ix_commit.proofs.Reading.{anyhow_through}
use Rattle.ix_disk.proofs.Runs.{rose_later}
use Rattle.indexd_run.proofs.Ending.{not_err, same_stop}
use Rattle.indexd_run.proofs.Blaming.{place_still}
use Rattle.indexd_run.proofs.Shortening.{by_end, damaged_end, ends_short, stopped_short, gave_taken, gave_other, by_fault, rose_by_end}
use Rattle.indexd_run.proofs.Tasks.{gave_whole}
use Rattle.indexd_run.proofs.run.give_task.Goals as goal

not_short : (stop : Stop) → IsOfCheckpoint stop → is_short_at stop ≡ true → ⊥
not_short stop why short = by_fault (λ (s : Stop). is_short_at s ≡ true →
    ⊥) stop (λ e. true≢false (sym e)) (λ e. true≢false (sym e)) why short

not_blamed : (stop : Stop) (file : File) (at : ℕ) → IsOfCheckpoint stop → stop ≡ stops.Damaged file at → ⊥
not_blamed stop file at why is = by_fault (λ (s : Stop). s ≡ stops.Damaged file at → ⊥) stop (λ e. cc) (λ e. cc) why is

pub returns-in-Ok-make_short : goal.returns-in-Ok-make_short
returns-in-Ok-make_short g c = record {
  ends = λ choose h base chooser taken hold.
      let fits : SFits w64 c.args.moment = search rules in
      let left = simp to_z-of_z at (c.in-Ok.ensures.ends choose h base chooser taken hold) in
      ends_short g.D.Disk _ c.args.store.now.run g.M.StoreMemory.holds g.M.StoreMemory.takes choose h base c.give_command.new.store
      c.make_short.new.store c.args.disk.now c.give_command.new.disk c.make_short.new.disk
      c.make_short.ensures.run (λ now all held. c.make_short.ensures.images choose now base chooser all held) false
      (Gave {T = ℕ} (Ok c.in-Ok.count) (orders_in c.args.task c.args.moment))
      (Gave {T = ℕ} (Ok c.in-Ok.count) (orders_in c.args.task c.args.moment)) (λ orders is. is)
      (λ orders is. all_taken g.M.StoreMemory.takes g.met.M.StoreMemory.ticks_are_taken choose h orders taken
      (gave_taken g.M.StoreMemory.takes true (orders_in c.args.task c.args.moment) orders c.requires.takes is))
      (λ kept now all held. c.in-Ok-make_short.ensures.held kept choose now base chooser all held) left;
  moved = λ choose h base chooser taken hold.
      let fits : SFits w64 c.args.moment = search rules in
      simp to_z-of_z at (c.in-Ok.ensures.moved choose h base chooser taken hold);
  fine = λ not choose h base chooser taken hold.
      let fits : SFits w64 c.args.moment = search rules in
      simp to_z-of_z at (c.in-Ok.ensures.fine not choose h base chooser taken hold);
  why = tt;
  short = λ ok. c.in-Ok-make_short.ensures.short;
  undamaged = λ file at is. absurd (not_err is);
  placed = λ file at is. absurd (not_err is);
  told = anyhow_through (g.D.Disk.seen c.args.disk.now) (g.D.Disk.seen c.give_command.new.disk) (g.D.Disk.seen c.make_short.new.disk)
      c.give_command.ensures.told c.make_short.ensures.told;
  later = le_trans c.give_command.ensures.later c.make_short.ensures.later;
  cause = λ is. absurd (not_err is);
  quiet = tt;
  unread = tt;
}

pub returns-in-Err-make_short : goal.returns-in-Err-make_short
returns-in-Err-make_short g c = record {
  ends = λ choose h base chooser taken hold.
      let fits : SFits w64 c.args.moment = search rules in
      let left = simp to_z-of_z at (c.in-Ok.ensures.ends choose h base chooser taken hold) in
      ends_short g.D.Disk _ c.args.store.now.run g.M.StoreMemory.holds g.M.StoreMemory.takes choose h base c.give_command.new.store
      c.make_short.new.store c.args.disk.now c.give_command.new.disk c.make_short.new.disk
      c.make_short.ensures.run (λ now all held. c.make_short.ensures.images choose now base chooser all held)
      (loses c.in-Err-make_short.stop)
      (Gave {T = ℕ} (Ok c.in-Ok.count) (orders_in c.args.task c.args.moment))
      (Gave {T = ℕ} (Err c.in-Err-make_short.stop) (orders_in c.args.task c.args.moment))
      (λ orders is. gave_whole (is_output c.in-Err-make_short.stop) (orders_in c.args.task c.args.moment) orders is)
      (λ orders is. all_taken g.M.StoreMemory.takes g.met.M.StoreMemory.ticks_are_taken choose h orders taken
      (gave_taken g.M.StoreMemory.takes true (orders_in c.args.task c.args.moment) orders c.requires.takes is))
      (λ kept now all held. c.in-Err-make_short.ensures.held kept choose now base chooser all held) left;
  moved = tt;
  fine = tt;
  why = λ choose h base chooser taken hold.
      by_fault (λ (stop : Stop). IsWhy choose h c.args.task c.args.moment stop) c.in-Err-make_short.stop tt tt
      c.in-Err-make_short.ensures.faults;
  short = λ ok. absurd (not_short c.in-Err-make_short.stop c.in-Err-make_short.ensures.faults ok);
  undamaged = λ file at is. absurd (not_blamed c.in-Err-make_short.stop file at c.in-Err-make_short.ensures.faults (same_stop is));
  placed = λ file at is. absurd (not_blamed c.in-Err-make_short.stop file at c.in-Err-make_short.ensures.faults (same_stop is));
  told = anyhow_through (g.D.Disk.seen c.args.disk.now) (g.D.Disk.seen c.give_command.new.disk) (g.D.Disk.seen c.make_short.new.disk)
      c.give_command.ensures.told c.make_short.ensures.told;
  later = le_trans c.give_command.ensures.later c.make_short.ensures.later;
  cause = λ is.
      let at : c.in-Err-make_short.stop ≡ stops.Disk = same_stop is in
      rose_later (g.D.Disk.faults c.args.disk.now) (g.D.Disk.faults c.give_command.new.disk) (g.D.Disk.faults c.make_short.new.disk)
      c.give_command.ensures.later (c.make_short.ensures.cause (c.in-Err-make_short.is ∙ ap (λ (s : Stop). Err s) at));
  quiet = by_fault (λ (stop : Stop). is_output stop ≡ false) c.in-Err-make_short.stop refl refl c.in-Err-make_short.ensures.faults;
  unread = by_fault (λ (stop : Stop). is_input stop ≡ false) c.in-Err-make_short.stop refl refl c.in-Err-make_short.ensures.faults;
}

pub returns-in-Err : goal.returns-in-Err
returns-in-Err g c = record {
  ends = λ choose h base chooser taken hold.
      let fits : SFits w64 c.args.moment = search rules in
      let ends = simp to_z-of_z at (c.in-Err.ensures.ends choose h base chooser taken hold) in
      stopped_short g.D.Disk _ c.args.store.now.run g.M.StoreMemory.holds g.M.StoreMemory.takes choose h base c.give_command.new.store
      c.stop_run.new.store c.args.disk.now c.give_command.new.disk c.stop_run.new.disk
      c.in-Err.stop c.stop_run.result (Gave {T = ℕ} (Err c.in-Err.stop) (orders_in c.args.task c.args.moment))
      (Gave {T = ℕ} (Err c.stop_run.result) (orders_in c.args.task c.args.moment))
      (λ orders is. gave_other c.in-Err.stop c.stop_run.result (orders_in c.args.task c.args.moment) orders c.stop_run.ensures.why is)
      (λ orders is. all_taken g.M.StoreMemory.takes g.met.M.StoreMemory.ticks_are_taken choose h orders taken
      (gave_taken g.M.StoreMemory.takes (is_output c.in-Err.stop) (orders_in c.args.task c.args.moment) orders c.requires.takes is))
      c.stop_run.ensures.run c.stop_run.ensures.closed (λ kept now all held.
      c.stop_run.ensures.images kept choose now base chooser all held)
      (λ kept also now all held. c.stop_run.ensures.held kept also choose now base chooser all held) ends;
  moved = tt;
  fine = tt;
  why = λ choose h base chooser taken hold.
      let fits : SFits w64 c.args.moment = search rules in
      by_end (λ (stop : Stop). IsWhy choose h c.args.task c.args.moment stop) c.in-Err.stop c.stop_run.result
      (simp to_z-of_z at (c.in-Err.ensures.why choose h base chooser taken hold)) tt tt c.stop_run.ensures.why;
  short = c.stop_run.ensures.short;
  undamaged = λ file at is choose h base chooser taken hold image seen.
      let blamed = damaged_end c.in-Err.stop c.stop_run.result file at c.stop_run.ensures.why is in
      let same = c.stop_run.ensures.closed (ap loses blamed) in
      c.give_command.ensures.undamaged file at (c.in-Err.is ∙ ap (λ (s : Stop). Err s) blamed) choose h base chooser taken hold image
      (subst (λ d. g.D.Disk.seen d ≡ Some image) same.1.1 seen);
  placed = λ file at is.
      let blamed = damaged_end c.in-Err.stop c.stop_run.result file at c.stop_run.ensures.why is in
      place_still g.D.Disk c.give_command.new.disk c.stop_run.new.disk file at (c.stop_run.ensures.closed (ap loses blamed)).1.1
      (c.give_command.ensures.placed file at (c.in-Err.is ∙ (ap (λ (s : Stop). Err s) blamed)));
  told = anyhow_through (g.D.Disk.seen c.args.disk.now) (g.D.Disk.seen c.give_command.new.disk) (g.D.Disk.seen c.stop_run.new.disk)
      c.give_command.ensures.told c.stop_run.ensures.told;
  later = le_trans c.give_command.ensures.later c.stop_run.ensures.later;
  cause = λ is.
      let at : c.stop_run.result ≡ stops.Disk = same_stop is in
      rose_by_end (g.D.Disk.faults c.args.disk.now) (g.D.Disk.faults c.args.disk.now) (g.D.Disk.faults c.give_command.new.disk)
      (g.D.Disk.faults c.stop_run.new.disk) c.in-Err.stop (le_refl (g.D.Disk.faults c.args.disk.now)) c.give_command.ensures.later
      c.stop_run.ensures.later
      (λ stop. c.give_command.ensures.cause (c.in-Err.is ∙ ap (λ (s : Stop). Err s) stop)) (c.stop_run.ensures.cause at);
  quiet = by_end (λ (stop : Stop). is_output stop ≡ false) c.in-Err.stop c.stop_run.result c.in-Err.ensures.quiet refl refl
      c.stop_run.ensures.why;
  unread = by_end (λ (stop : Stop). is_input stop ≡ false) c.in-Err.stop c.stop_run.result c.in-Err.ensures.unread refl refl
      c.stop_run.ensures.why;
}
