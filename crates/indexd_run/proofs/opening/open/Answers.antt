use Rattle.std.proofs.Common.{rules, le_trans, ◌≡◌, ◌∙◌, true, false, take, refl, sym, ap, ap₂, subst, inl, inr, w64, to_z, of_z}
use Rattle.std.specs.Prelude.{Err}
use Rattle.std.proofs.lemmas.Int.{to_z-of_z}
use mir.Val.{SFits}
use Rattle.ix_commit.proofs.Reading.{anyhow_through}
use Rattle.ix_store.specs.declared.fault.MountFault.{MountFault}
use Rattle.ix_store.specs.declared.fault.MountFault.TheVariants as mounts
use Rattle.ix_run.proofs.Stored.{all_taken}
use Rattle.indexd_run.specs.Blamed.{Blames}
use Rattle.indexd_run.specs.Ends.{AtMost, same_kept}
use Rattle.indexd_run.specs.Opened.{configuring, IsUnset}
use Rattle.indexd_run.specs.Stops.{of_mount, loses, is_output, is_input}
use Rattle.indexd_run.specs.Shortened.{is_short_at}
use Rattle.indexd_run.specs.declared.stop.Stop.{Stop}
use Rattle.indexd_run.specs.declared.stop.Stop.TheVariants as stops
use Rattle.indexd_run.proofs.Blaming.{not_mounted, once_mounted, damaged_stop, place_still}
use Rattle.indexd_run.proofs.Ending.{not_err, same_stop, unset, consistent_mount, full_of_mount, disk_of_mount, quiet_mount, unread_mount}
use Rattle.indexd_run.proofs.Ending.{short_mount}
use Rattle.indexd_run.proofs.Joining.{front_has, committed, configured_as, opened_same, opened_by, stopped_by}
use Rattle.indexd_run.proofs.Shortening.{by_end, rose_by_end, damaged_end, stopped_short, most_taken}
use Rattle.indexd_run.proofs.Undamaged.{damaged_of_mount, seen_on}
use Rattle.indexd_run.proofs.opening.open.Goals as goal

pub run_last-requires-clause-takes : goal.run_last-requires-clause-takes
run_last-requires-clause-takes g c = c.requires (to_z w64 (of_z w64 c.now-moment.result))

pub returns-then-same_kept : goal.returns-then-same_kept
returns-then-same_kept g c = record {
  opened = λ past chooser taken begins image seen.
      let is = c.in-Ok.ensures.mounted past.choose past.history past.run past.least chooser taken begins image seen in
      let same : c.same_kept.result ≡ same_kept c.kept.result.now c.args.config.kept = c.same_kept.ensures
      ∙ ap₂ same_kept c.as_slice.ensures c.as_slice-2.ensures in
      opened_same g.D.Disk _ g.M.StoreMemory.holds past c.args.config image c.in-Ok.store c.args.disk.now c.mount.new.disk
      (g.C.Clock.ahead c.args.clock.now) seen is (c.in-Ok.ensures.images past.choose past.history past.run past.least begins)
      (c.in-Ok.ensures.above past.choose past.history past.run past.least begins image seen) c.in-Ok.ensures.begun
      (configured_as g.D.Disk _ g.M.StoreMemory.holds past c.args.config image c.in-Ok.store c.mount.new.disk is
      c.kept.result.now c.kept.ensures c.same_kept.result true same c.if-same_kept.true);
  stopped = tt;
  undamaged = λ file at is. absurd (not_err is);
  mounted = record { run = c.in-Ok.store.run; number = c.in-Ok.ensures.number; runs_left = c.in-Ok.ensures.begun };
  blamed = tt;
  over = c.in-Ok.ensures.over;
  rest = record { over = c.in-Ok.ensures.over; idle = c.in-Ok.ensures.idle; measured = c.in-Ok.ensures.measured };
  short = tt;
  told = c.mount.ensures.told;
  later = c.mount.ensures.later;
  cause = λ is. absurd (not_err is);
  quiet = tt;
  unread = tt;
}

pub returns-in-Ok-run_last : goal.returns-in-Ok-run_last
returns-in-Ok-run_last g c = record {
  opened = λ past chooser taken begins image seen.
      let fits : SFits w64 c.now-moment.result = search rules in
      let is = c.in-Ok.ensures.mounted past.choose past.history past.run past.least chooser taken begins image seen in
      let same : c.same_kept.result ≡ same_kept c.kept.result.now c.args.config.kept = c.same_kept.ensures
      ∙ ap₂ same_kept c.as_slice.ensures c.as_slice-2.ensures in
      let left = simp to_z-of_z at (c.in-Ok-run_last.ensures.left past.choose (take is.count past.history) is.count chooser
      (front_has g.M.StoreMemory.takes is.count past.history taken)
      (committed g.D.Disk _ g.M.StoreMemory.holds past c.args.config image c.in-Ok.store c.mount.new.disk is)) in
      opened_by g.D.Disk _ g.M.StoreMemory.holds past c.args.config image c.in-Ok.store c.run_last.new.store c.args.disk.now
      c.mount.new.disk c.run_last.new.disk
      (g.C.Clock.ahead c.args.clock.now) (g.C.Clock.ahead c.now-moment.new.self) seen c.run_last.ensures.run is
      (c.in-Ok.ensures.images past.choose past.history past.run past.least begins)
      (c.in-Ok.ensures.above past.choose past.history past.run past.least begins image seen)
      c.in-Ok.ensures.begun
      (configured_as g.D.Disk _ g.M.StoreMemory.holds past c.args.config image c.in-Ok.store c.mount.new.disk is
      c.kept.result.now c.kept.ensures c.same_kept.result false same c.if-same_kept.false)
      c.now-moment.result c.now-moment.ensures left;
  stopped = tt;
  undamaged = λ file at is. absurd (not_err is);
  mounted = record { run = c.in-Ok.store.run; number = c.in-Ok.ensures.number; runs_left = c.in-Ok.ensures.begun };
  blamed = tt;
  over = c.in-Ok-run_last.ensures.over;
  rest = c.in-Ok-run_last.ensures.rest refl (record {
    over = c.in-Ok.ensures.over;
    idle = c.in-Ok.ensures.idle;
    measured = c.in-Ok.ensures.measured;
  });
  short = tt;
  told = anyhow_through (g.D.Disk.seen c.args.disk.now) (g.D.Disk.seen c.mount.new.disk) (g.D.Disk.seen c.run_last.new.disk)
      c.mount.ensures.told c.run_last.ensures.told;
  later = le_trans c.mount.ensures.later c.run_last.ensures.later;
  cause = λ is. absurd (not_err is);
  quiet = tt;
  unread = tt;
}

pub returns-in-Err-run_last : goal.returns-in-Err-run_last
returns-in-Err-run_last g c = record {
  opened = tt;
  stopped = λ past chooser taken begins image seen.
      let fits : SFits w64 c.now-moment.result = search rules in
      let is = c.in-Ok.ensures.mounted past.choose past.history past.run past.least chooser taken begins image seen in
      let same : c.same_kept.result ≡ same_kept c.kept.result.now c.args.config.kept = c.same_kept.ensures
      ∙ ap₂ same_kept c.as_slice.ensures c.as_slice-2.ensures in
      let all = committed g.D.Disk _ g.M.StoreMemory.holds past c.args.config image c.in-Ok.store c.mount.new.disk is in
      let front = front_has g.M.StoreMemory.takes is.count past.history taken in
      let caused = simp to_z-of_z at (c.in-Err-run_last.ensures.caused past.choose (take is.count past.history) is.count chooser front all)
      in
      let order = configuring c.args.config c.now-moment.result in
      let ends = simp to_z-of_z at (c.in-Err-run_last.ensures.stopped past.choose (take is.count past.history) is.count chooser front all)
      in
      let short = stopped_short g.D.Disk _ c.in-Ok.store.run g.M.StoreMemory.holds g.M.StoreMemory.takes past.choose
      (take is.count past.history)
      is.count c.run_last.new.store c.stop_run.new.store c.mount.new.disk c.run_last.new.disk c.stop_run.new.disk
      c.in-Err-run_last.stop c.stop_run.result (AtMost order) (AtMost order) (λ orders at_most. at_most)
      (λ orders at_most. all_taken g.M.StoreMemory.takes g.met.M.StoreMemory.ticks_are_taken past.choose
      (take is.count past.history) orders front
      (most_taken g.M.StoreMemory.takes order orders (c.requires c.now-moment.result) at_most))
      c.stop_run.ensures.run c.stop_run.ensures.closed (λ kept now given held.
      c.stop_run.ensures.images kept past.choose now is.count chooser given held)
      (λ kept also now given held. c.stop_run.ensures.held kept also past.choose now is.count chooser given held) ends in
      stopped_by g.D.Disk _ g.M.StoreMemory.holds past c.args.config image c.in-Ok.store c.stop_run.new.store
      c.args.disk.now c.mount.new.disk c.stop_run.new.disk
      (g.C.Clock.ahead c.args.clock.now) (g.C.Clock.ahead c.now-moment.new.self) seen is
      (c.in-Ok.ensures.images past.choose past.history past.run past.least begins)
      (c.in-Ok.ensures.above past.choose past.history past.run past.least begins image seen)
      c.in-Ok.ensures.begun
      (configured_as g.D.Disk _ g.M.StoreMemory.holds past c.args.config image c.in-Ok.store c.mount.new.disk is
      c.kept.result.now c.kept.ensures c.same_kept.result false same c.if-same_kept.false)
      c.now-moment.result c.now-moment.ensures c.stop_run.result
      (by_end (λ (stop : Stop). IsUnset past.choose (take is.count past.history) order stop) c.in-Err-run_last.stop c.stop_run.result
      (unset past.choose c.in-Ok.store.drawn (take is.count past.history) c.args.config c.now-moment.result c.in-Err-run_last.stop caused)
      tt tt
      c.stop_run.ensures.why) g.M.StoreMemory.takes
      (λ orders at_most. all_taken g.M.StoreMemory.takes g.met.M.StoreMemory.ticks_are_taken past.choose
      (take is.count past.history) orders front
      (most_taken g.M.StoreMemory.takes order orders (c.requires c.now-moment.result) at_most)) short;
  undamaged = λ file at is past chooser taken begins image seen.
      let mounted = seen_on _ (g.D.Disk.seen c.args.disk.now) (g.D.Disk.seen c.mount.new.disk) image c.mount.ensures.told seen in
      let later = seen_on _ (g.D.Disk.seen c.mount.new.disk) (g.D.Disk.seen c.run_last.new.disk) mounted.0 c.run_last.ensures.told mounted.1
      in
      let found = c.in-Ok.ensures.mounted past.choose past.history past.run past.least chooser taken begins image seen in
      let all = committed g.D.Disk _ g.M.StoreMemory.holds past c.args.config image c.in-Ok.store c.mount.new.disk found in
      let blamed = damaged_end c.in-Err-run_last.stop c.stop_run.result file at c.stop_run.ensures.why is in
      let same = c.stop_run.ensures.closed (ap loses blamed) in
      c.run_last.ensures.undamaged file at (c.in-Err-run_last.is
      ∙ ap (λ (s : Stop). Err s) blamed) past.choose (take found.count past.history) found.count chooser
      (front_has g.M.StoreMemory.takes found.count past.history taken) all later.0 later.1;
  mounted = tt;
  blamed = once_mounted g.D.Disk g.M.Book.ManifestState.fits g.M.StoreMemory.gives_none c.args.disk.now c.stop_run.new.disk
      c.stop_run.result (record { run = c.in-Ok.store.run; number = c.in-Ok.ensures.number; runs_left = c.in-Ok.ensures.begun })
      (λ file at is.
      let blamed = damaged_stop c.in-Err-run_last.stop c.stop_run.result file at c.stop_run.ensures.why is in
      place_still g.D.Disk c.run_last.new.disk c.stop_run.new.disk file at (c.stop_run.ensures.closed (ap loses blamed)).1.1
      (c.run_last.ensures.placed file at (c.in-Err-run_last.is ∙ ap (λ (s : Stop). Err s) blamed)));
  over = tt;
  rest = tt;
  short = λ ok. inl (c.stop_run.ensures.short ok);
  told = anyhow_through (g.D.Disk.seen c.args.disk.now) (g.D.Disk.seen c.mount.new.disk) (g.D.Disk.seen c.stop_run.new.disk)
      c.mount.ensures.told
      (anyhow_through (g.D.Disk.seen c.mount.new.disk) (g.D.Disk.seen c.run_last.new.disk) (g.D.Disk.seen c.stop_run.new.disk)
      c.run_last.ensures.told c.stop_run.ensures.told);
  later = le_trans c.mount.ensures.later (le_trans c.run_last.ensures.later c.stop_run.ensures.later);
  cause = λ is.
      let at : c.stop_run.result ≡ stops.Disk = same_stop is in
      rose_by_end (g.D.Disk.faults c.args.disk.now) (g.D.Disk.faults c.mount.new.disk) (g.D.Disk.faults c.run_last.new.disk)
      (g.D.Disk.faults c.stop_run.new.disk) c.in-Err-run_last.stop
      c.mount.ensures.later c.run_last.ensures.later c.stop_run.ensures.later
      (λ stop. c.run_last.ensures.cause (c.in-Err-run_last.is ∙ ap (λ (s : Stop). Err s) stop)) (c.stop_run.ensures.cause at);
  quiet = by_end (λ (stop : Stop). is_output stop ≡ false) c.in-Err-run_last.stop c.stop_run.result c.in-Err-run_last.ensures.quiet refl
      refl c.stop_run.ensures.why;
  unread = by_end (λ (stop : Stop). is_input stop ≡ false) c.in-Err-run_last.stop c.stop_run.result c.in-Err-run_last.ensures.unread refl
      refl c.stop_run.ensures.why;
}

pub returns-in-Err : goal.returns-in-Err
returns-in-Err g c = record {
  opened = tt;
  stopped = λ past chooser taken begins image seen. inl (record {
    fault = c.in-Err.fault;
    stop_is = c.of_mount.ensures;
    sound = λ unsound.
        let is : of_mount c.in-Err.fault ≡ stops.Inconsistent = sym c.of_mount.ensures ∙ unsound in
        consistent_mount c.in-Err.fault is;
    spent = λ full.
        let is : of_mount c.in-Err.fault ≡ stops.Full = sym c.of_mount.ensures ∙ full in
        let mount_is : c.in-Err.fault ≡ mounts.Full = full_of_mount c.in-Err.fault is in
        c.in-Err.ensures.full (ap (λ (f : MountFault). Err f) mount_is);
    not_asked = refl;
    stood = c.in-Err.ensures.images past.choose past.history past.run past.least begins;
  });
  undamaged = λ file at is past chooser taken begins image seen.
      let stop : of_mount c.in-Err.fault ≡ stops.Damaged file at = sym c.of_mount.ensures ∙ same_stop is in
      let fault = damaged_of_mount c.in-Err.fault file at stop in
      let was : c.mount.result ≡ Err (mounts.Damaged file at) = c.in-Err.is ∙ ap (λ (f : MountFault). Err f) fault in
      c.mount.ensures.undamaged file at was past.choose past.history past.run past.least chooser taken begins image seen;
  mounted = tt;
  blamed = subst (λ (stop : Stop). Blames stop g.D.Disk g.M.Book.ManifestState.fits g.M.StoreMemory.gives_none c.args.disk.now
      c.mount.new.disk) (sym c.of_mount.ensures)
      (not_mounted g.D.Disk g.M.Book.ManifestState.fits g.M.StoreMemory.gives_none c.args.disk.now c.mount.new.disk c.in-Err.fault
      (λ file at is. c.mount.ensures.damaged file at (c.in-Err.is ∙ ap (λ (f : MountFault). Err f) is))
      (λ is. c.in-Err.ensures.full (ap (λ (f : MountFault). Err f) is)));
  over = tt;
  rest = tt;
  short = λ is.
      let full : c.in-Err.fault ≡ mounts.Full = short_mount c.in-Err.fault (sym (ap is_short_at c.of_mount.ensures) ∙ is) in
      inr (c.of_mount.ensures ∙ ap of_mount full, c.in-Err.ensures.full (ap (λ (f : MountFault). Err f) full));
  told = c.mount.ensures.told;
  later = c.mount.ensures.later;
  cause = λ is.
      let stop : of_mount c.in-Err.fault ≡ stops.Disk = sym c.of_mount.ensures ∙ same_stop is in
      c.mount.ensures.cause (c.in-Err.is ∙ ap (λ (f : MountFault). Err f) (disk_of_mount c.in-Err.fault stop));
  quiet = ap is_output c.of_mount.ensures ∙ quiet_mount c.in-Err.fault;
  unread = ap is_input c.of_mount.ensures ∙ unread_mount c.in-Err.fault;
}
