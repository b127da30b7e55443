use Rattle.std.proofs.Common.{◌≡◌, ◌∙◌, List, ℕ, [], sym, ap, subst, inl, le_trans}
use Rattle.std.specs.Prelude.{Ok}
use Rattle.indexd_run.specs.declared.stop.Stop.TheVariants as stops
use Rattle.indexd_core.specs.Feeds.{shut, served}
use Rattle.indexd_core.specs.Sides.{Side, side}
use Rattle.indexd_core.specs.Stored.{line_of, named_of}
use Rattle.indexd_core.specs.Texts.{Said}
use Rattle.indexd_core.proofs.BlamedLemmas.{stop_names, stop_fills, end_names, end_not_full}
use Rattle.indexd_core.proofs.PreviewLemmas.{rose-until}
use Rattle.indexd_core.proofs.FeedLemmas.{asks_taken, disk_end, input_end, output_end, damaged_end, usage_end, listener_end, in_use_end}
use Rattle.indexd_core.proofs.StoredLemmas.{disk_stop, output_stop, input_stop, usage_stop, listener_stop, in_use_stop, yes_no, err_as}
use Rattle.indexd_core.proofs.StoredLemmas.{by_blame, from_start}
use Rattle.indexd_core.proofs.ShortLemmas.{left_at_stop, end_short}
use Rattle.indexd_core.proofs.feed.feed_with.Goals as goal

pub run_streams-requires-clause-settings : goal.run_streams-requires-clause-settings
run_streams-requires-clause-settings g c = λ moment. c.requires

pub run_streams-requires-clause-asks : goal.run_streams-requires-clause-asks
run_streams-requires-clause-asks g c = asks_taken

pub returns-in-Ok : goal.returns-in-Ok
returns-in-Ok g c = record {
  comes = served c.in-Ok.end (side (g.W.Sink.faults c.run_streams.new.output) (g.W.Sink.given c.run_streams.new.output))
      c.say_end.ensures.status
      c.run_streams.ensures.written_later c.say_end.ensures.later c.in-Ok.ensures.reads (from_start _ _ _ c.in-Ok.ensures.served)
      c.say_end.ensures.said;
  short = λ ok. inl (c.in-Ok.ensures.short (end_short c.say_end.result c.in-Ok.end c.say_end.ensures.status ok));
  output = λ is.
      rose-until (g.W.Sink.faults c.args.output.now) (g.W.Sink.faults c.run_streams.new.output) (g.W.Sink.faults c.say_end.new.output)
      (c.run_streams.ensures.output (c.in-Ok.is ∙ ap (λ e. Ok e) (output_end c.say_end.result c.in-Ok.end c.say_end.ensures.status is)))
      c.say_end.ensures.later;
  input = λ is. c.run_streams.ensures.input (c.in-Ok.is
      ∙ ap (λ e. Ok e) (input_end c.say_end.result c.in-Ok.end c.say_end.ensures.status is));
  read_later = c.run_streams.ensures.read_later;
  written_later = le_trans c.run_streams.ensures.written_later c.say_end.ensures.later;
  told = c.run_streams.ensures.told;
  disk_later = c.run_streams.ensures.later;
  disk = λ is. c.run_streams.ensures.disk (c.in-Ok.is ∙ ap (λ e. Ok e) (disk_end c.say_end.result c.in-Ok.end c.say_end.ensures.status is));
  undamaged = λ is. damaged_end c.say_end.result c.in-Ok.end _ c.say_end.ensures.status is
      (λ file at damaged. from_start _ _ _ (c.run_streams.ensures.unbroken file at (c.in-Ok.is ∙ ap (λ e. Ok e) damaged)));
  blamed = λ is. end_names g.D.Disk c.args.disk.now c.run_streams.new.disk c.say_end.result c.in-Ok.end
      (side (g.W.Sink.faults c.args.output.now) (g.W.Sink.given c.args.output.now))
      (side (g.W.Sink.faults c.run_streams.new.output) (g.W.Sink.given c.run_streams.new.output))
      (side (g.W.Sink.faults c.say_end.new.output) (g.W.Sink.given c.say_end.new.output))
      c.say_end.ensures.status is c.in-Ok.ensures.mounted
      (λ file at damaged. c.run_streams.ensures.placed file at (c.in-Ok.is ∙ ap (λ e. Ok e) damaged))
      c.run_streams.ensures.written_later c.say_end.ensures.said;
  full = λ is. absurd (end_not_full c.say_end.result c.in-Ok.end c.say_end.ensures.status is);
  usage = λ is. usage_end c.say_end.result c.in-Ok.end c.say_end.ensures.status is;
  listener = λ is. listener_end c.say_end.result c.in-Ok.end c.say_end.ensures.status is;
  in_use = λ is. in_use_end c.say_end.result c.in-Ok.end c.say_end.ensures.status is;
}

pub returns-in-Err : goal.returns-in-Err
returns-in-Err g c = record {
  comes = let named : named_of c.of_index.result ≡ [] = cc (c.of_index.ensures) in
      let read : side (g.S.Source.faults c.run_streams.new.input) (g.S.Source.left c.run_streams.new.input) ≡ side
      (g.S.Source.faults c.args.input.now) (g.S.Source.left c.args.input.now) =
      ap (λ s. side (g.S.Source.faults s) (g.S.Source.left s)) c.in-Err.ensures.unread in
      let wrote : side (g.W.Sink.faults c.run_streams.new.output) (g.W.Sink.given c.run_streams.new.output) ≡ side
      (g.W.Sink.faults c.args.output.now) (g.W.Sink.given c.args.output.now) =
      ap (λ w. side (g.W.Sink.faults w) (g.W.Sink.given w)) c.in-Err.ensures.unwritten in
      shut c.in-Err.stop c.say_stop.ensures.status (from_start _ _ _ c.in-Err.ensures.shut) read
      (subst (λ (before : Side). Said (line_of [] c.in-Err.stop) before
      (side (g.W.Sink.faults c.say_stop.new.output) (g.W.Sink.given c.say_stop.new.output))) wrote
      (subst (λ (name : List ℕ). Said (line_of name c.in-Err.stop)
      (side (g.W.Sink.faults c.run_streams.new.output) (g.W.Sink.given c.run_streams.new.output))
      (side (g.W.Sink.faults c.say_stop.new.output) (g.W.Sink.given c.say_stop.new.output))) named c.say_stop.ensures.said));
  short = left_at_stop g.D.Disk c.args.disk.now c.run_streams.new.disk c.say_stop.result c.in-Err.stop c.say_stop.ensures.status
      c.in-Err.ensures.stopped_short;
  output = λ is. absurd (yes_no _ (output_stop c.say_stop.result c.in-Err.stop c.say_stop.ensures.status is).0 c.in-Err.ensures.quiet);
  input = λ is. absurd (yes_no _ (input_stop c.say_stop.result c.in-Err.stop c.say_stop.ensures.status is).0 c.in-Err.ensures.still);
  read_later = c.run_streams.ensures.read_later;
  written_later = le_trans c.run_streams.ensures.written_later c.say_stop.ensures.later;
  told = c.run_streams.ensures.told;
  disk_later = c.run_streams.ensures.later;
  disk = λ is. c.in-Err.ensures.cause (err_as c.in-Err.stop stops.Disk
      (disk_stop c.say_stop.result c.in-Err.stop c.say_stop.ensures.status is));
  undamaged = λ is. by_blame c.in-Err.stop _ (sym c.say_stop.ensures.status ∙ is)
      (λ unsound. from_start _ _ _ (c.run_streams.ensures.sound (c.in-Err.is ∙ err_as c.in-Err.stop _ unsound)))
      (λ file at damaged. from_start _ _ _ (c.run_streams.ensures.undamaged file at (c.in-Err.is ∙ err_as c.in-Err.stop _ damaged)));
  blamed = λ is. stop_names g.D.Disk c.args.disk.now c.run_streams.new.disk c.say_stop.result c.in-Err.stop _
      (side (g.W.Sink.faults c.args.output.now) (g.W.Sink.given c.args.output.now))
      (side (g.W.Sink.faults c.run_streams.new.output) (g.W.Sink.given c.run_streams.new.output))
      (side (g.W.Sink.faults c.say_stop.new.output) (g.W.Sink.given c.say_stop.new.output))
      c.say_stop.ensures.status is c.in-Err.ensures.blamed (c.run_streams.ensures.written_later) c.say_stop.ensures.said;
  full = λ is. stop_fills g.D.Disk c.args.disk.now c.run_streams.new.disk c.say_stop.result c.in-Err.stop
      c.say_stop.ensures.status is c.in-Err.ensures.blamed;
  usage = λ is. usage_stop c.say_stop.result c.in-Err.stop c.say_stop.ensures.status is;
  listener = λ is. listener_stop c.say_stop.result c.in-Err.stop c.say_stop.ensures.status is;
  in_use = λ is. in_use_stop c.say_stop.result c.in-Err.stop c.say_stop.ensures.status is;
}
