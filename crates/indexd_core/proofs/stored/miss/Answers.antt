use Rattle.std.proofs.Common.{◌≡◌, ◌∙◌, false, refl, inl, le_trans}
use Rattle.ix_disk.proofs.Runs.{rose_later}
use Rattle.ix_recovery.specs.Recalled.{GivesNone}
use Rattle.ix_state.specs.Taken.{IsTaken}
use Rattle.indexd_run.specs.Stops.{is_output, is_input}
use Rattle.indexd_run.specs.declared.stop.Stop.{Stop}
use Rattle.indexd_run.specs.declared.stop.Stop.TheVariants as stops
use Rattle.indexd_run.proofs.Blaming.{once_mounted, damaged_stop, missed_sound}
use Rattle.indexd_run.proofs.Joining.{shut_sound}
use Rattle.indexd_run.proofs.Shortening.{by_end}
use Rattle.indexd_run.specs.Opened.{course}
use Rattle.indexd_core.specs.Stored.{status_of}
use Rattle.indexd_core.specs.declared.status.Status.TheVariants as statuses
use Rattle.indexd_core.proofs.MissedLemmas.{missed, by_disk}
use Rattle.indexd_core.proofs.StoredLemmas.{by_blame, err_as, from_start}
use Rattle.ix_serve.proofs.Standing.{tells_on}
use Rattle.indexd_core.proofs.stored.miss.Goals as goal

pub open-requires : goal.open-requires
open-requires g c = λ moment. c.requires.settings

pub returns-in-Err : goal.returns-in-Err
returns-in-Err g c = record {
  stopped = λ left. from_start _ _ _ (λ past chooser taken begins image seen.
      inl (c.in-Err.ensures.stopped past chooser taken begins image seen, refl));
  short = c.in-Err.ensures.short;
  told = tells_on g.D.Disk _ c.args.disk.now c.open.new.disk c.open.ensures.told;
  later = c.open.ensures.later;
  cause = λ is. c.open.ensures.cause (c.in-Err.is ∙ err_as c.in-Err.stop _ is);
  undamaged = λ is. by_blame c.in-Err.stop _ is
      (λ unsound. from_start _ _ _ (λ past chooser taken begins image seen.
      shut_sound c.in-Err.stop g.D.Disk IsTaken _ past (course c.args.config _ _ c.args.disk.now c.open.new.disk) unsound
      (c.in-Err.ensures.stopped past chooser taken begins image seen)))
      (λ file at damaged. from_start _ _ _ (c.open.ensures.undamaged file at (c.in-Err.is ∙ err_as c.in-Err.stop _ damaged)));
  blamed = c.in-Err.ensures.blamed;
  quiet = c.in-Err.ensures.quiet;
  unread = c.in-Err.ensures.unread;
}

pub returns : goal.returns
returns g c = record {
  stopped = λ left. from_start _ _ _ (λ past chooser taken begins image seen.
      missed g.D.Disk _ _ past c.args.config c.in-Ok.store c.stop_run.new.store (g.C.Clock.ahead c.args.clock.now)
      (g.C.Clock.ahead c.open.new.clock) (g.C.Clock.ahead c.now-moment.new.self)
      c.args.disk.now c.open.new.disk c.stop_run.new.disk c.args.origin.now left c.now-moment.result c.stop_run.result c.requires.settings
      c.requires.long taken
      (c.in-Ok.ensures.opened past chooser taken begins image seen) c.now-moment.ensures c.stop_run.ensures.run
      c.stop_run.ensures.why
      (λ now base all hold. c.stop_run.ensures.images refl past.choose now base chooser all hold)
      (λ kept now base all hold. c.stop_run.ensures.held refl kept past.choose now base chooser all hold));
  short = λ ok. inl (c.stop_run.ensures.short ok);
  told = λ is. tells_on g.D.Disk _ c.open.new.disk c.stop_run.new.disk c.stop_run.ensures.told
      (tells_on g.D.Disk _ c.args.disk.now c.open.new.disk c.open.ensures.told is);
  later = le_trans c.open.ensures.later c.stop_run.ensures.later;
  cause = λ is. rose_later (g.D.Disk.faults c.args.disk.now) (g.D.Disk.faults c.open.new.disk) (g.D.Disk.faults c.stop_run.new.disk)
      c.open.ensures.later (by_disk _ (c.stop_run.ensures.cause is));
  undamaged = λ is. absurd (by_end (λ (s : Stop). status_of s ≡ statuses.Damaged →
      ⊥) stops.NotFound c.stop_run.result (λ e. cc) (λ e. cc) (λ e. cc) c.stop_run.ensures.why is);
  blamed = once_mounted g.D.Disk _ GivesNone c.args.disk.now c.stop_run.new.disk c.stop_run.result c.in-Ok.ensures.mounted
      (λ file at is. absurd (missed_sound file at (damaged_stop stops.NotFound c.stop_run.result file at c.stop_run.ensures.why is)));
  quiet = by_end (λ (s : Stop). is_output s ≡ false) stops.NotFound c.stop_run.result refl refl refl c.stop_run.ensures.why;
  unread = by_end (λ (s : Stop). is_input s ≡ false) stops.NotFound c.stop_run.result refl refl refl c.stop_run.ensures.why;
}
