use Rattle.std.proofs.Common.{◌≡◌, List, [], ℕ, ◌∙◌, refl, sym, subst, le_trans}
use Rattle.std.specs.List.{AllByRecursion}
use Rattle.ix_monitor.specs.Inputs.{IsStated}
use Rattle.ix_monitor.specs.declared.inputs.Input.{Input}
use Rattle.ix_serve.proofs.Standing.{tells_on}
use Rattle.indexd_run.specs.declared.stop.Stop.TheVariants as stops
use Rattle.indexd_run.specs.Opened.{course}
use Rattle.indexd_core.specs.Monitors.{MonitorComes}
use Rattle.indexd_core.specs.Sides.{side}
use Rattle.indexd_core.specs.Stored.{done, stopped, line_of, named_of}
use Rattle.indexd_core.specs.Texts.{Said}
use Rattle.indexd_core.specs.declared.status.Status.TheVariants as statuses
use Rattle.indexd_core.proofs.BlamedLemmas.{stop_names, stop_fills}
use Rattle.indexd_core.proofs.MonitorLemmas.{watched_taken}
use Rattle.indexd_core.proofs.PreviewLemmas.{rose-until}
use Rattle.indexd_core.proofs.ShortLemmas.{left_at_ok, left_at_err}
use Rattle.indexd_core.proofs.StoredLemmas.{apart, disk_stop, output_stop, input_stop, usage_stop, listener_stop, in_use_stop}
use Rattle.indexd_core.proofs.StoredLemmas.{err_as, by_blame, from_start}
use Rattle.indexd_core.proofs.monitor.monitor_with.Goals as goal

pub run_monitor-requires-clause-settings : goal.run_monitor-requires-clause-settings
run_monitor-requires-clause-settings g c = λ moment. c.requires.settings

pub run_monitor-requires-clause-files : goal.run_monitor-requires-clause-files
run_monitor-requires-clause-files g c = watched_taken c.args.found.config c.as_slice.result.now c.requires.settings
    (subst (λ (l : List Input). AllByRecursion (IsStated c.args.found.config.limits) l) (sym c.as_slice.ensures) c.requires.stated)

pub returns-in-Ok : goal.returns-in-Ok
returns-in-Ok g c = record {
  comes = subst (λ (l : List Input). MonitorComes statuses.Done g.D.Disk
      (course c.args.found.config (g.C.Clock.ahead c.args.clock.now) (g.C.Clock.ahead c.run_monitor.new.clock) c.args.disk.now
      c.run_monitor.new.disk) (g.T.Tree.files c.args.tree.now) l c.args.close
      (side (g.W.Sink.faults c.args.output.now) (g.W.Sink.given c.args.output.now))
      (side (g.W.Sink.faults c.run_monitor.new.output) (g.W.Sink.given c.run_monitor.new.output))) c.as_slice.ensures
      (done refl (from_start _ _ _ c.in-Ok.ensures.done));
  short = left_at_ok g.D.Disk c.args.disk.now c.run_monitor.new.disk c.run_monitor.result statuses.Done tt c.in-Ok.is
      c.run_monitor.ensures.short;
  output = λ is. absurd (apart statuses.Done statuses.Output refl is);
  input = λ is. absurd (apart statuses.Done statuses.Input refl is);
  written_later = c.run_monitor.ensures.grown;
  told = tells_on g.D.Disk _ c.args.disk.now c.run_monitor.new.disk c.run_monitor.ensures.told;
  disk_later = c.run_monitor.ensures.later;
  disk = λ is. absurd (apart statuses.Done statuses.DiskFault refl is);
  undamaged = λ is. absurd (apart statuses.Done statuses.Damaged refl is);
  blamed = λ is. absurd (apart statuses.Done statuses.Damaged refl is);
  full = λ is. absurd (apart statuses.Done statuses.Full refl is);
  usage = λ is. apart statuses.Done statuses.Usage refl is;
  listener = λ is. apart statuses.Done statuses.ListenerFault refl is;
  in_use = λ is. apart statuses.Done statuses.InUse refl is;
  same = c.run_monitor.ensures.same;
  tree_later = c.run_monitor.ensures.tree_later;
  missing_later = c.run_monitor.ensures.tree_missing;
}

pub returns : goal.returns
returns g c = record {
  comes = let named : named_of c.of_index.result ≡ [] = cc (c.of_index.ensures) in
      subst (λ (l : List Input). MonitorComes c.say_stop.result g.D.Disk
      (course c.args.found.config (g.C.Clock.ahead c.args.clock.now) (g.C.Clock.ahead c.run_monitor.new.clock) c.args.disk.now
      c.run_monitor.new.disk) (g.T.Tree.files c.args.tree.now) l c.args.close
      (side (g.W.Sink.faults c.args.output.now) (g.W.Sink.given c.args.output.now))
      (side (g.W.Sink.faults c.say_stop.new.output) (g.W.Sink.given c.say_stop.new.output))) c.as_slice.ensures
      (stopped c.in-Err.stop (side (g.W.Sink.faults c.run_monitor.new.output) (g.W.Sink.given c.run_monitor.new.output))
      c.say_stop.ensures.status (from_start _ _ _ c.in-Err.ensures.stopped) c.in-Err.ensures.quiet
      (subst (λ (text : List ℕ). Said (line_of text c.in-Err.stop)
      (side (g.W.Sink.faults c.run_monitor.new.output) (g.W.Sink.given c.run_monitor.new.output))
      (side (g.W.Sink.faults c.say_stop.new.output) (g.W.Sink.given c.say_stop.new.output))) named c.say_stop.ensures.said));
  short = left_at_err g.D.Disk c.args.disk.now c.run_monitor.new.disk c.run_monitor.result c.say_stop.result c.in-Err.stop c.in-Err.is
      c.say_stop.ensures.status c.run_monitor.ensures.short;
  output = λ is.
      rose-until (g.W.Sink.faults c.args.output.now) (g.W.Sink.faults c.run_monitor.new.output) (g.W.Sink.faults c.say_stop.new.output)
      (c.in-Err.ensures.output (err_as c.in-Err.stop stops.Output
      (output_stop c.say_stop.result c.in-Err.stop c.say_stop.ensures.status is).1)) c.say_stop.ensures.later;
  input = λ is. c.in-Err.ensures.input (err_as c.in-Err.stop stops.Input
      (input_stop c.say_stop.result c.in-Err.stop c.say_stop.ensures.status is).1);
  written_later = le_trans c.run_monitor.ensures.grown c.say_stop.ensures.later;
  told = tells_on g.D.Disk _ c.args.disk.now c.run_monitor.new.disk c.run_monitor.ensures.told;
  disk_later = c.run_monitor.ensures.later;
  disk = λ is. c.in-Err.ensures.cause (err_as c.in-Err.stop stops.Disk
      (disk_stop c.say_stop.result c.in-Err.stop c.say_stop.ensures.status is));
  undamaged = λ is. by_blame c.in-Err.stop _ (sym c.say_stop.ensures.status ∙ is)
      (λ unsound. from_start _ _ _ (c.run_monitor.ensures.sound (c.in-Err.is ∙ err_as c.in-Err.stop _ unsound)))
      (λ file at damaged. from_start _ _ _ (c.run_monitor.ensures.undamaged file at (c.in-Err.is ∙ err_as c.in-Err.stop _ damaged)));
  blamed = λ is. stop_names g.D.Disk c.args.disk.now c.run_monitor.new.disk c.say_stop.result c.in-Err.stop _
      (side (g.W.Sink.faults c.args.output.now) (g.W.Sink.given c.args.output.now))
      (side (g.W.Sink.faults c.run_monitor.new.output) (g.W.Sink.given c.run_monitor.new.output))
      (side (g.W.Sink.faults c.say_stop.new.output) (g.W.Sink.given c.say_stop.new.output))
      c.say_stop.ensures.status is c.in-Err.ensures.blamed c.run_monitor.ensures.grown c.say_stop.ensures.said;
  full = λ is. stop_fills g.D.Disk c.args.disk.now c.run_monitor.new.disk c.say_stop.result c.in-Err.stop
      c.say_stop.ensures.status is c.in-Err.ensures.blamed;
  usage = λ is. usage_stop c.say_stop.result c.in-Err.stop c.say_stop.ensures.status is;
  listener = λ is. listener_stop c.say_stop.result c.in-Err.stop c.say_stop.ensures.status is;
  in_use = λ is. in_use_stop c.say_stop.result c.in-Err.stop c.say_stop.ensures.status is;
  same = c.run_monitor.ensures.same;
  tree_later = c.run_monitor.ensures.tree_later;
  missing_later = c.run_monitor.ensures.tree_missing;
}
