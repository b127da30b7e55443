use Rattle.std.proofs.Common.{◌≡◌, ◌∙◌, List, ℕ, false, refl, sym, subst, arith, inl, inr, le_refl}
use Rattle.std.specs.Prelude.{Ok, Err}
use Rattle.ix_base.specs.declared.events.ChannelMeta.{ChannelMeta}
use Rattle.ix_replay.specs.Fits.{fits}
use Rattle.ix_state.specs.Taken.{IsTaken}
use Rattle.indexd_run.specs.Opened.{WhenOpen, HasRun, HasStopped, course}
use Rattle.indexd_run.specs.Previews.{HasFed}
use Rattle.indexd_run.proofs.Feeding.{none_taken}
use Rattle.indexd_run.specs.declared.stop.Stop.TheVariants as stops
use Rattle.indexd_core.specs.Origins.{stated_of}
use Rattle.indexd_core.specs.Prepared.{index_or_default}
use Rattle.indexd_core.specs.Sides.{side}
use Rattle.indexd_core.specs.Stored.{FromStart, done, stopped, line_of, named_of}
use Rattle.indexd_core.specs.Texts.{Said}
use Rattle.indexd_core.proofs.BlamedLemmas.{stop_names, stop_fills}
use Rattle.indexd_core.proofs.LockedLemmas.{left_alone}
use Rattle.indexd_core.proofs.StoredLemmas.{apart, unmounted, disk_stop, output_stop, input_stop, usage_stop, listener_stop, in_use_stop}
use Rattle.indexd_core.proofs.StoredLemmas.{done_stop, yes_no, err_as}
use Rattle.indexd_core.specs.declared.status.Status.TheVariants as statuses
use Rattle.indexd_core.proofs.ShortLemmas.{left_at_ok, left_at_err}
use Rattle.indexd_core.proofs.stored.store_with.Goals as goal

pub returns-in_default : goal.returns-in_default
returns-in_default g c = record {
  comes = stopped stops.Memory (side (g.W.Sink.faults c.args.output.now) (g.W.Sink.given c.args.output.now)) refl
      (λ past may. unmounted g.D.Disk _ past c.args.config _ _ _ c.args.disk.now refl may.begins
      (omega arith))
      (refl, none_taken stops.Memory (g.S.Source.left c.args.input.now) refl) c.say.ensures.said;
  silent = λ is. absurd (apart statuses.Memory statuses.Done refl is);
  short = λ ok. inr (inl (left_alone g.D.Disk c.args.disk.now));
  output = λ is. apart statuses.Memory statuses.Output refl is;
  input = λ is. absurd (apart statuses.Memory statuses.Input refl is);
  read_later = le_refl _;
  written_later = c.say.ensures.later;
  told = λ told. told;
  disk_later = le_refl _;
  disk = λ is. absurd (apart statuses.Memory statuses.DiskFault refl is);
  undamaged = λ is. absurd (apart statuses.Memory statuses.Damaged refl is);
  blamed = λ is. absurd (apart statuses.Memory statuses.Damaged refl is);
  full = λ is. absurd (apart statuses.Memory statuses.Full refl is);
  usage = λ is. apart statuses.Memory statuses.Usage refl is;
  listener = λ is. apart statuses.Memory statuses.ListenerFault refl is;
  in_use = λ is. apart statuses.Memory statuses.InUse refl is;
}

pub returns-in-Ok-store_input : goal.returns-in-Ok-store_input
returns-in-Ok-store_input g c = record {
  comes = done refl
      (subst (λ (meta : ChannelMeta). FromStart g.D.Disk c.args.disk.now
      (λ past. HasRun false g.D.Disk IsTaken fits past (WhenOpen past.choose c.args.config (g.C.Clock.ahead c.args.clock.now)
      (HasFed past.choose meta (Ok tt) (g.C.Clock.ahead c.store_input.new.clock) (g.S.Source.left c.args.input.now)
      (g.S.Source.left c.store_input.new.input))) c.args.disk.now c.store_input.new.disk)) c.in-Ok.ensures.meta
      c.in-Ok-store_input.ensures.done);
  silent = λ is. record { taken = c.in-Ok-store_input.ensures.read; same = refl };
  short = left_at_ok g.D.Disk c.args.disk.now c.store_input.new.disk c.store_input.result statuses.Done tt c.in-Ok-store_input.is
      c.store_input.ensures.short;
  output = λ is. apart statuses.Done statuses.Output refl is;
  input = λ is. absurd (apart statuses.Done statuses.Input refl is);
  read_later = c.store_input.ensures.read_later;
  written_later = le_refl _;
  told = c.store_input.ensures.told;
  disk_later = c.store_input.ensures.later;
  disk = λ is. absurd (apart statuses.Done statuses.DiskFault refl is);
  undamaged = λ is. absurd (apart statuses.Done statuses.Damaged refl is);
  blamed = λ is. absurd (apart statuses.Done statuses.Damaged refl is);
  full = λ is. absurd (apart statuses.Done statuses.Full refl is);
  usage = λ is. apart statuses.Done statuses.Usage refl is;
  listener = λ is. apart statuses.Done statuses.ListenerFault refl is;
  in_use = λ is. apart statuses.Done statuses.InUse refl is;
}

pub returns : goal.returns
returns g c = record {
  comes = let name : named_of c.of_index.result ≡ index_or_default (stated_of c.args.origin).index c.args.config.limits =
      cc (c.of_index.ensures, c.as_slice.ensures, c.in-Ok.ensures.index) in
      stopped c.in-Err.stop (side (g.W.Sink.faults c.args.output.now) (g.W.Sink.given c.args.output.now)) c.say_stop.ensures.status
      (subst (λ (meta : ChannelMeta). FromStart g.D.Disk c.args.disk.now
      (λ past. HasStopped c.in-Err.stop g.D.Disk IsTaken fits past
      (course c.args.config (g.C.Clock.ahead c.args.clock.now)
      (g.C.Clock.ahead c.store_input.new.clock) c.args.disk.now c.store_input.new.disk)
      (g.S.Source.left c.store_input.new.input ≡ g.S.Source.left c.args.input.now)
      (HasFed past.choose meta (Err c.in-Err.stop) (g.C.Clock.ahead c.store_input.new.clock) (g.S.Source.left c.args.input.now)
      (g.S.Source.left c.store_input.new.input)))) c.in-Ok.ensures.meta c.in-Err.ensures.stopped)
      (refl, c.in-Err.ensures.read)
      (subst (λ (named : List ℕ). Said (line_of named c.in-Err.stop)
      (side (g.W.Sink.faults c.args.output.now) (g.W.Sink.given c.args.output.now))
      (side (g.W.Sink.faults c.say_stop.new.output) (g.W.Sink.given c.say_stop.new.output))) name c.say_stop.ensures.said);
  silent = λ is. absurd (done_stop c.say_stop.result c.in-Err.stop c.say_stop.ensures.status is);
  short = left_at_err g.D.Disk c.args.disk.now c.store_input.new.disk c.store_input.result c.say_stop.result c.in-Err.stop c.in-Err.is
      c.say_stop.ensures.status c.store_input.ensures.short;
  output = λ is. yes_no _ (output_stop c.say_stop.result c.in-Err.stop c.say_stop.ensures.status is).0 c.in-Err.ensures.quiet;
  input = λ is. c.in-Err.ensures.input (err_as c.in-Err.stop stops.Input
      (input_stop c.say_stop.result c.in-Err.stop c.say_stop.ensures.status is).1);
  read_later = c.store_input.ensures.read_later;
  written_later = c.say_stop.ensures.later;
  told = c.store_input.ensures.told;
  disk_later = c.store_input.ensures.later;
  disk = λ is. c.in-Err.ensures.cause (err_as c.in-Err.stop stops.Disk
      (disk_stop c.say_stop.result c.in-Err.stop c.say_stop.ensures.status is));
  undamaged = λ is. c.in-Err.ensures.undamaged (sym c.say_stop.ensures.status ∙ is);
  blamed = λ is. stop_names g.D.Disk c.args.disk.now c.store_input.new.disk c.say_stop.result c.in-Err.stop _
      (side (g.W.Sink.faults c.args.output.now) (g.W.Sink.given c.args.output.now))
      (side (g.W.Sink.faults c.args.output.now) (g.W.Sink.given c.args.output.now))
      (side (g.W.Sink.faults c.say_stop.new.output) (g.W.Sink.given c.say_stop.new.output))
      c.say_stop.ensures.status is c.in-Err.ensures.blamed (le_refl _) c.say_stop.ensures.said;
  full = λ is. stop_fills g.D.Disk c.args.disk.now c.store_input.new.disk c.say_stop.result c.in-Err.stop
      c.say_stop.ensures.status is c.in-Err.ensures.blamed;
  usage = λ is. usage_stop c.say_stop.result c.in-Err.stop c.say_stop.ensures.status is;
  listener = λ is. listener_stop c.say_stop.result c.in-Err.stop c.say_stop.ensures.status is;
  in_use = λ is. in_use_stop c.say_stop.result c.in-Err.stop c.say_stop.ensures.status is;
}
