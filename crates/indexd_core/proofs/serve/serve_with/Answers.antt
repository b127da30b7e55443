use Rattle.std.proofs.Common.{◌≡◌, ◌∙◌, List, ℕ, [], refl, sym, ap, subst, inl, inr, le_refl, le_trans}
use Rattle.std.specs.Prelude.{Ok}
use Rattle.ix_disk.proofs.Runs.{rose_later}
use Rattle.ix_replay.specs.Fits.{fits}
use Rattle.ix_sessions.specs.Connections.{Listened, listened}
use Rattle.ix_sessions.specs.Reading.{HearsMany}
use Rattle.indexd_serve.specs.Ends.{AsManyServed}
use Rattle.ix_state.specs.Taken.{IsTaken}
use Rattle.indexd_serve.specs.Serving.{HasServed, Connections}
use Rattle.indexd_run.specs.declared.stop.Stop.TheVariants as stops
use Rattle.indexd_run.specs.Opened.{course}
use Rattle.indexd_core.specs.Locked.{IsLockedOut, is_before_store}
use Rattle.indexd_core.specs.Serves.{unbound, locked_out, shut, served}
use Rattle.indexd_core.specs.Sides.{side}
use Rattle.indexd_core.specs.Stored.{FromStart, line_of, named_of}
use Rattle.indexd_core.specs.Texts.{Said, status_text}
use Rattle.indexd_core.specs.declared.status.Status.{Status}
use Rattle.indexd_core.specs.declared.status.Status.TheVariants as statuses
use Rattle.indexd_core.proofs.BlamedLemmas.{stop_names, stop_fills, served_names, served_not_full, names_from, fills_from}
use Rattle.indexd_core.proofs.FeedLemmas.{asks_taken}
use Rattle.indexd_core.proofs.LockedLemmas.{left_alone, told_on, none_from_start, shut_from, served_from, short_from, out_no, out_disk}
use Rattle.indexd_core.proofs.LockedLemmas.{out_used, out_ends}
use Rattle.indexd_core.proofs.ServeLemmas.{same_listened, output_served, disk_served, listener_served, damaged_served, input_served}
use Rattle.indexd_core.proofs.ServeLemmas.{usage_served, in_use_served}
use Rattle.indexd_core.proofs.ShortLemmas.{left_at_stop, serve_short}
use Rattle.indexd_core.proofs.StoredLemmas.{apart, disk_stop, output_stop, input_stop, usage_stop, listener_stop, in_use_stop, yes_no}
use Rattle.indexd_core.proofs.StoredLemmas.{err_as, by_blame, from_start}
use Rattle.indexd_core.proofs.serve.serve_with.Goals as goal

pub run_serve-requires-clause-settings : goal.run_serve-requires-clause-settings
run_serve-requires-clause-settings g c = λ moment. c.requires

pub run_serve-requires-clause-asks : goal.run_serve-requires-clause-asks
run_serve-requires-clause-asks g c = asks_taken

pub returns-in-Err : goal.returns-in-Err
returns-in-Err g c = record {
  comes = unbound c.say_fault.ensures.status refl (same_listened _ _ _ _ c.bind.ensures.waiting c.bind.ensures.handed) refl
      c.say_fault.ensures.said;
  short = λ ok. inr (inl (left_alone g.D.Disk c.args.disk.now));
  output = λ is. absurd (apart statuses.ListenerFault statuses.Output refl (sym c.say_fault.ensures.status ∙ is));
  written_later = c.say_fault.ensures.later;
  told = λ told. told;
  disk_later = le_refl _;
  heard_later = c.bind.ensures.cause.later;
  disk = λ is. absurd (apart statuses.ListenerFault statuses.DiskFault refl (sym c.say_fault.ensures.status ∙ is));
  listener = λ is. c.in-Err.ensures.cause.failed refl;
  out = c.bind.ensures.out;
  undamaged = λ is. absurd (apart statuses.ListenerFault statuses.Damaged refl (sym c.say_fault.ensures.status ∙ is));
  blamed = λ is. absurd (apart statuses.ListenerFault statuses.Damaged refl (sym c.say_fault.ensures.status ∙ is));
  full = λ is. absurd (apart statuses.ListenerFault statuses.Full refl (sym c.say_fault.ensures.status ∙ is));
  input = λ is. apart statuses.ListenerFault statuses.Input refl (sym c.say_fault.ensures.status ∙ is);
  usage = λ is. apart statuses.ListenerFault statuses.Usage refl (sym c.say_fault.ensures.status ∙ is);
  in_use = λ is. absurd (apart statuses.ListenerFault statuses.InUse refl (sym c.say_fault.ensures.status ∙ is));
  used = λ known. record { status_is = inr (ap is_before_store c.say_fault.ensures.status); alone = left_alone g.D.Disk c.args.disk.now };
}

pub returns-in-Some : goal.returns-in-Some
returns-in-Some g c =
    let said = c.say_locked_out.ensures in
    let out = subst (λ (s : Status). IsLockedOut s g.D.Disk c.args.disk.now c.lock_out.new.disk) (sym said.status) c.in-Some.ensures.out in
    let no = λ (at : Status). out_no g.D.Disk c.args.disk.now c.lock_out.new.disk c.say_locked_out.result at out in
    record {
      comes = locked_out refl (same_listened _ _ _ _ c.bind.ensures.waiting c.bind.ensures.handed) out
          (subst (λ (s : Status). Said (status_text s) (side (g.W.Sink.faults c.args.output.now) (g.W.Sink.given c.args.output.now))
          (side (g.W.Sink.faults c.say_locked_out.new.output) (g.W.Sink.given c.say_locked_out.new.output))) (sym said.status) said.said);
      short = λ ok. inr (inl c.lock_out.ensures.alone);
      output = λ is. absurd (no statuses.Output refl is);
      written_later = said.later;
      told = λ told. told_on c.lock_out.ensures.alone told;
      disk_later = c.lock_out.ensures.later;
      heard_later = c.bind.ensures.cause.later;
      disk = λ is. out_disk g.D.Disk c.args.disk.now c.lock_out.new.disk c.say_locked_out.result out is;
      listener = λ is. absurd (no statuses.ListenerFault refl is);
      out = c.bind.ensures.out;
      undamaged = λ is. absurd (no statuses.Damaged refl is);
      blamed = λ is. absurd (no statuses.Damaged refl is);
      full = λ is. absurd (no statuses.Full refl is);
      input = λ is. no statuses.Input refl is;
      usage = λ is. no statuses.Usage refl is;
      in_use = λ is. out_used g.D.Disk c.args.disk.now c.lock_out.new.disk c.say_locked_out.result out is;
      used = λ known. out_ends g.D.Disk c.args.disk.now c.lock_out.new.disk c.say_locked_out.result out known;
    }

pub returns-in-Ok : goal.returns-in-Ok
returns-in-Ok g c = record {
  comes = let run = c.run_serve.new in
      served c.in-Ok.end
      (subst (λ (from : Listened). HearsMany (AsManyServed c.args.serving.requests c.in-Ok.end) from
      (listened (g.L.Listener.waiting run.listener) (g.L.Listener.handed run.listener)))
      (same_listened _ _ _ _ c.bind.ensures.waiting c.bind.ensures.handed) c.in-Ok.ensures.reads)
      (served_from c.lock_out.ensures.alone c.args.config (g.C.Clock.ahead c.args.clock.now) (g.C.Clock.ahead run.clock) run.disk
      (Connections g.D.Disk fits c.args.serving.requests c.in-Ok.end
      (listened (g.L.Listener.waiting c.args.listener.now) (g.L.Listener.handed c.args.listener.now))
      (listened (g.L.Listener.waiting run.listener) (g.L.Listener.handed run.listener)))
      (subst (λ w. FromStart g.D.Disk c.lock_out.new.disk
      (λ past. HasServed g.D.Disk IsTaken fits past (course c.args.config (g.C.Clock.ahead c.args.clock.now)
      (g.C.Clock.ahead run.clock) c.lock_out.new.disk run.disk)
      (Connections g.D.Disk fits c.args.serving.requests c.in-Ok.end (listened w (g.L.Listener.handed c.args.listener.now))
      (listened (g.L.Listener.waiting run.listener) (g.L.Listener.handed run.listener)))))
      c.bind.ensures.waiting
      (subst (λ b. FromStart g.D.Disk c.lock_out.new.disk
      (λ past. HasServed g.D.Disk IsTaken fits past (course c.args.config (g.C.Clock.ahead c.args.clock.now)
      (g.C.Clock.ahead run.clock) c.lock_out.new.disk run.disk)
      (Connections g.D.Disk fits c.args.serving.requests c.in-Ok.end (listened (g.L.Listener.waiting c.bind.new.self) b)
      (listened (g.L.Listener.waiting run.listener) (g.L.Listener.handed run.listener)))))
      c.bind.ensures.handed (from_start _ _ _ c.in-Ok.ensures.served)))) c.say_end.ensures.said;
  short = λ ok. inl (c.in-Ok.ensures.short (serve_short c.say_end.result _ c.in-Ok.end _ _ c.say_end.ensures.said ok));
  output = λ is. output_served c.say_end.result _ _ _ c.in-Ok.end c.say_end.ensures.said is;
  written_later = c.say_end.ensures.later;
  told = λ told. c.run_serve.ensures.told (told_on c.lock_out.ensures.alone told);
  disk_later = le_trans c.lock_out.ensures.later c.run_serve.ensures.later;
  heard_later = le_trans c.bind.ensures.cause.later c.run_serve.ensures.heard_later;
  disk = λ is.
      let rose = c.run_serve.ensures.disk (c.in-Ok.is ∙ ap (λ e. Ok e)
      (disk_served c.say_end.result _ _ _ c.in-Ok.end c.say_end.ensures.said is)) in
      rose_later (g.D.Disk.faults c.args.disk.now) (g.D.Disk.faults c.lock_out.new.disk) (g.D.Disk.faults c.run_serve.new.disk)
      c.lock_out.ensures.later rose;
  listener = λ is.
      let rose = c.run_serve.ensures.listener (c.in-Ok.is
      ∙ ap (λ e. Ok e) (listener_served c.say_end.result _ _ _ c.in-Ok.end c.say_end.ensures.said is)) in
      rose_later (g.L.Listener.faults c.args.listener.now) (g.L.Listener.faults c.bind.new.self)
      (g.L.Listener.faults c.run_serve.new.listener) c.bind.ensures.cause.later rose;
  out = c.run_serve.ensures.out ∙ c.bind.ensures.out;
  undamaged = λ is. none_from_start c.lock_out.ensures.alone (damaged_served c.say_end.result _ _ _ c.in-Ok.end _ c.say_end.ensures.said is
      (λ file at damaged. from_start _ _ _ (c.run_serve.ensures.unbroken file at (c.in-Ok.is ∙ ap (λ e. Ok e) damaged))));
  blamed = λ is. names_from c.lock_out.ensures.alone c.run_serve.new.disk _ _
      (served_names g.D.Disk c.lock_out.new.disk c.run_serve.new.disk c.say_end.result _ c.in-Ok.end _ _ c.say_end.ensures.said is
      c.in-Ok.ensures.mounted (λ file at damaged. c.run_serve.ensures.placed file at (c.in-Ok.is ∙ ap (λ e. Ok e) damaged)));
  full = λ is. absurd (served_not_full c.say_end.result _ c.in-Ok.end _ _ c.say_end.ensures.said is);
  input = λ is. input_served c.say_end.result _ _ _ c.in-Ok.end c.say_end.ensures.said is;
  usage = λ is. usage_served c.say_end.result _ _ _ c.in-Ok.end c.say_end.ensures.said is;
  in_use = λ is. absurd (in_use_served c.say_end.result _ _ _ c.in-Ok.end c.say_end.ensures.said is);
  used = λ known. absurd (c.lock_out.ensures.given c.in-None.is known);
}

pub returns-in-Err-run_serve : goal.returns-in-Err-run_serve
returns-in-Err-run_serve g c = record {
  comes = let named : named_of c.of_index.result ≡ [] = cc (c.of_index.ensures) in
      shut c.in-Err-run_serve.stop c.say_stop.ensures.status
      (shut_from c.lock_out.ensures.alone c.args.config (g.C.Clock.ahead c.args.clock.now)
      (g.C.Clock.ahead c.run_serve.new.clock) c.run_serve.new.disk c.in-Err-run_serve.stop
      (from_start _ _ _ c.in-Err-run_serve.ensures.shut))
      (same_listened _ _ _ _ (ap (λ l. g.L.Listener.waiting l) c.in-Err-run_serve.ensures.untouched
      ∙ c.bind.ensures.waiting) (ap (λ l. g.L.Listener.handed l) c.in-Err-run_serve.ensures.untouched ∙ c.bind.ensures.handed))
      (subst (λ (name : List ℕ). Said (line_of name c.in-Err-run_serve.stop)
      (side (g.W.Sink.faults c.args.output.now) (g.W.Sink.given c.args.output.now))
      (side (g.W.Sink.faults c.say_stop.new.output) (g.W.Sink.given c.say_stop.new.output))) named c.say_stop.ensures.said);
  short = short_from c.lock_out.ensures.alone c.say_stop.result c.run_serve.new.disk
      (left_at_stop g.D.Disk c.lock_out.new.disk c.run_serve.new.disk c.say_stop.result c.in-Err-run_serve.stop c.say_stop.ensures.status
      c.in-Err-run_serve.ensures.stopped_short);
  output = λ is. absurd (yes_no _ (output_stop c.say_stop.result c.in-Err-run_serve.stop c.say_stop.ensures.status is).0
      c.in-Err-run_serve.ensures.quiet);
  written_later = c.say_stop.ensures.later;
  told = λ told. c.run_serve.ensures.told (told_on c.lock_out.ensures.alone told);
  disk_later = le_trans c.lock_out.ensures.later c.run_serve.ensures.later;
  heard_later = le_trans c.bind.ensures.cause.later c.run_serve.ensures.heard_later;
  disk = λ is.
      let rose = c.in-Err-run_serve.ensures.cause (err_as c.in-Err-run_serve.stop stops.Disk
      (disk_stop c.say_stop.result c.in-Err-run_serve.stop c.say_stop.ensures.status is)) in
      rose_later (g.D.Disk.faults c.args.disk.now) (g.D.Disk.faults c.lock_out.new.disk) (g.D.Disk.faults c.run_serve.new.disk)
      c.lock_out.ensures.later rose;
  listener = λ is. absurd (listener_stop c.say_stop.result c.in-Err-run_serve.stop c.say_stop.ensures.status is);
  out = c.run_serve.ensures.out ∙ c.bind.ensures.out;
  undamaged = λ is. none_from_start c.lock_out.ensures.alone (by_blame c.in-Err-run_serve.stop _ (sym c.say_stop.ensures.status ∙ is)
      (λ unsound. from_start _ _ _ (c.run_serve.ensures.sound (c.in-Err-run_serve.is ∙ err_as c.in-Err-run_serve.stop _ unsound)))
      (λ file at damaged. from_start _ _ _ (c.run_serve.ensures.undamaged file at (c.in-Err-run_serve.is
      ∙ err_as c.in-Err-run_serve.stop _ damaged))));
  blamed = λ is. names_from c.lock_out.ensures.alone c.run_serve.new.disk _ _
      (stop_names g.D.Disk c.lock_out.new.disk c.run_serve.new.disk c.say_stop.result c.in-Err-run_serve.stop _
      (side (g.W.Sink.faults c.args.output.now) (g.W.Sink.given c.args.output.now))
      (side (g.W.Sink.faults c.args.output.now) (g.W.Sink.given c.args.output.now))
      (side (g.W.Sink.faults c.say_stop.new.output) (g.W.Sink.given c.say_stop.new.output))
      c.say_stop.ensures.status is c.in-Err-run_serve.ensures.blamed (le_refl _) c.say_stop.ensures.said);
  full = λ is. fills_from c.lock_out.ensures.alone
      (stop_fills g.D.Disk c.lock_out.new.disk c.run_serve.new.disk c.say_stop.result c.in-Err-run_serve.stop
      c.say_stop.ensures.status is c.in-Err-run_serve.ensures.blamed);
  input = λ is. yes_no _ (input_stop c.say_stop.result c.in-Err-run_serve.stop c.say_stop.ensures.status is).0
      c.in-Err-run_serve.ensures.still;
  usage = λ is. usage_stop c.say_stop.result c.in-Err-run_serve.stop c.say_stop.ensures.status is;
  in_use = λ is. absurd (in_use_stop c.say_stop.result c.in-Err-run_serve.stop c.say_stop.ensures.status is);
  used = λ known. absurd (c.lock_out.ensures.given c.in-None.is known);
}
