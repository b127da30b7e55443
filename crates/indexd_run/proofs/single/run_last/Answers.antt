use Rattle.std.proofs.Common.{rules, ◌≡◌, ◌∙◌, length, refl, ap, sym, inl}
use Rattle.std.specs.Prelude.{Err}
use Rattle.std.proofs.lemmas.Int.{to_z-of_z}
use mir.Val.{SFits}
use Rattle.std.specs.Int.{w64}
use Rattle.ix_commit.specs.declared.fault.CommitFault.TheVariants as commits
use Rattle.ix_run.specs.declared.giving.GiveFault.{GiveFault}
use Rattle.ix_run.specs.declared.giving.GiveFault.TheVariants.{Commit}
use Rattle.indexd_run.specs.Stops.{of_give, loses, is_output, is_input}
use Rattle.indexd_run.specs.declared.stop.Stop.TheVariants as stops
use Rattle.indexd_run.proofs.Ending.{not_err, same_stop, stopped, left_by, caused, disk_of_give, quiet_give, unread_give, rest_of_give}
use Rattle.indexd_run.proofs.Undamaged.{damaged_of_give}
use Rattle.indexd_run.proofs.single.run_last.Goals as goal

pub returns-in-Ok : goal.returns-in-Ok
returns-in-Ok g c = record {
  left = λ choose h base chooser taken hold.
      let fits : SFits w64 c.args.moment = search rules in
      let kept = simp to_z-of_z at (c.in-Ok.ensures.kept choose h base (length h) chooser taken hold) in
      left_by g.D.Disk _ c.args.store.now.run g.M.StoreMemory.holds choose h base _ c.give_last.new.store c.args.disk.now
      c.give_last.new.disk c.args.store.now c.in-Ok.answer refl kept;
  answers = λ choose h base chooser taken hold.
      let fits : SFits w64 c.args.moment = search rules in
      let kept = simp to_z-of_z at (c.in-Ok.ensures.kept choose h base (length h) chooser taken hold) in
      kept.answers;
  stopped = tt;
  caused = tt;
  over = c.in-Ok.ensures.over;
  run = c.give_last.ensures.run;
  rest = λ kept rest. c.in-Ok.ensures.rest rest.measured;
  undamaged = λ file at is. absurd (not_err is);
  placed = λ file at is. absurd (not_err is);
  told = c.give_last.ensures.told;
  later = c.give_last.ensures.later;
  cause = λ is. absurd (not_err is);
  quiet = tt;
  unread = tt;
}

pub returns-in-Err : goal.returns-in-Err
returns-in-Err g c = record {
  left = tt;
  answers = tt;
  stopped = λ choose h base chooser taken hold.
      let fits : SFits w64 c.args.moment = search rules in
      let not = simp to_z-of_z at (c.in-Err.ensures.fault choose h base (length h) chooser taken hold) in
      stopped g.D.Disk _ c.args.store.now.run g.M.StoreMemory.holds choose h base _ c.give_last.new.store c.args.disk.now
      c.give_last.new.disk c.args.store.now c.in-Err.fault _ refl c.of_give.ensures not;
  caused = λ choose h base chooser taken hold.
      let fits : SFits w64 c.args.moment = search rules in
      let not = simp to_z-of_z at (c.in-Err.ensures.fault choose h base (length h) chooser taken hold) in
      caused g.D.Disk g.M.Book.ManifestState.fits c.args.store.now.run g.M.StoreMemory.holds choose h base
      (record { command = c.args.command; moment = c.args.moment }) c.give_last.new.store c.args.disk.now c.give_last.new.disk
      c.args.store.now c.in-Err.fault c.of_give.result c.of_give.ensures not;
  over = tt;
  run = c.give_last.ensures.run;
  rest = λ kept rest.
      rest_of_give g.D.Disk g.M.Book.ManifestState.fits c.args.store.now c.give_last.new.store c.args.disk.now c.give_last.new.disk
      c.in-Err.fault c.in-Err.ensures.unchanged (ap loses (sym c.of_give.ensures) ∙ kept) rest;
  undamaged = λ file at is choose h base chooser taken hold.
      let stop : of_give c.in-Err.fault ≡ stops.Damaged file at = sym c.of_give.ensures ∙ same_stop is in
      let fault = damaged_of_give c.in-Err.fault file at stop in
      let was : c.give_last.result ≡ Err (Commit (commits.Damaged file at)) = c.in-Err.is ∙ ap (λ (f : GiveFault). Err f) fault in
      c.give_last.ensures.undamaged file at was choose h base (length h) chooser taken hold;
  placed = λ file at is image seen.
      let stop : of_give c.in-Err.fault ≡ stops.Damaged file at = sym c.of_give.ensures ∙ same_stop is in
      let fault = damaged_of_give c.in-Err.fault file at stop in
      inl (c.give_last.ensures.placed file at (c.in-Err.is ∙ ap (λ (f : GiveFault). Err f) fault) image seen);
  told = c.give_last.ensures.told;
  later = c.give_last.ensures.later;
  cause = λ is.
      let stop : of_give c.in-Err.fault ≡ stops.Disk = sym c.of_give.ensures ∙ same_stop is in
      c.in-Err.ensures.cause (disk_of_give c.in-Err.fault stop);
  quiet = ap is_output c.of_give.ensures ∙ quiet_give c.in-Err.fault;
  unread = ap is_input c.of_give.ensures ∙ unread_give c.in-Err.fault;
}
