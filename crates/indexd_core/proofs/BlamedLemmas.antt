-- Why a run ends with `Damaged` or `Full`: by its stop, by the end of its requests, and from where it
-- has the store on.
use Rattle.std.proofs.Common.{◌≡◌, ◌≤◌, ◌⊎◌, ◌∙◌, ℕ, List, refl, sym, inl, inr, le_refl}
use Rattle.ix_base.specs.declared.files.File.{File}
use Rattle.ix_disk.specs.declared.disk.Disk.{Ghosts}
use Rattle.ix_recovery.specs.Recalled.{GivesNone}
use Rattle.ix_replay.specs.Fits.{fits}
use Rattle.indexd_run.specs.Blamed.{HasMounted, IsBadStart, ReadsBad, Blames}
use Rattle.indexd_run.specs.declared.stop.Stop.{Stop}
use Rattle.indexd_run.specs.declared.stop.Stop.TheVariants as stops
use Rattle.indexd_serve.specs.declared.end.End.{End}
use Rattle.indexd_serve.specs.declared.end.End.TheVariants as ends
use Rattle.indexd_serve.specs.declared.end.ServeEnd.{ServeEnd}
use Rattle.indexd_serve.specs.declared.end.ServeEnd.TheVariants as serving
use Rattle.indexd_core.specs.Blamed.{EndsWith, IsDamaged, at_start, mounted, contradicted, NamesDamage, IsFilled}
use Rattle.indexd_core.specs.Feeds.{end_status, end_line}
use Rattle.indexd_core.specs.Locked.{IsLeftAlone}
use Rattle.indexd_core.specs.Serves.{EndsServing}
use Rattle.indexd_core.specs.Sides.{Side}
use Rattle.indexd_core.specs.Stored.{status_of, line_of, damaged_line, first_log}
use Rattle.indexd_core.specs.Texts.{Said}
use Rattle.indexd_core.specs.declared.status.Status.{Status}
use Rattle.indexd_core.specs.declared.status.Status.TheVariants as statuses
use Rattle.indexd_core.proofs.StoredLemmas.{apart}

module _ {D : Type 0} (d : Ghosts D) (disk disk' : D) where
  by_either : (file : File) (at : ℕ) → IsBadStart d fits GivesNone disk file at ⊎ (HasMounted d fits disk × ReadsBad d disk' file at) →
      IsDamaged d file at disk disk'
  by_either file at (inl bad) = at_start bad
  by_either file at (inr was) = mounted was.0 was.1

  -- ---- stops

  named_by_stop : (stop : Stop) (named : List ℕ) (output output' : Side) → statuses.Damaged ≡ status_of stop →
      Blames stop d fits GivesNone disk disk' → EndsWith (line_of named stop) output output' → NamesDamage d disk disk' output output'
  named_by_stop stops.Memory named output output' is why line = absurd (apart statuses.Damaged statuses.Memory refl is)
  named_by_stop stops.Disk named output output' is why line = absurd (apart statuses.Damaged statuses.DiskFault refl is)
  named_by_stop (stops.Damaged file at) named output output' is why line =
      record { file = file; at = at; line = line; damaged = by_either file at why }
  named_by_stop stops.Inconsistent named output output' is why line =
      record { file = first_log; at = 0; line = line; damaged = contradicted why refl refl }
  named_by_stop stops.NotFound named output output' is why line = absurd (apart statuses.Damaged statuses.NotFound refl is)
  named_by_stop stops.TooManyChannels named output output' is why line = absurd (apart statuses.Damaged statuses.TooManyChannels refl is)
  named_by_stop stops.Full named output output' is why line = absurd (apart statuses.Damaged statuses.Full refl is)
  named_by_stop stops.Output named output output' is why line = absurd (apart statuses.Damaged statuses.Output refl is)
  named_by_stop stops.Input named output output' is why line = absurd (apart statuses.Damaged statuses.Input refl is)
  named_by_stop stops.Endless named output output' is why line = absurd (apart statuses.Damaged statuses.Endless refl is)

  pub stop_names : (ended : Status) (stop : Stop) (named : List ℕ) (output before output' : Side) → ended ≡ status_of stop →
      ended ≡ statuses.Damaged → Blames stop d fits GivesNone disk disk' → output.faults ≤ before.faults →
      Said (line_of named stop) before output' →
      NamesDamage d disk disk' output output'
  stop_names ended stop named output before output' is at why later said =
      named_by_stop stop named output output' (sym at ∙ is) why (record { before = before; later = later; said = said })

  full_by_stop : (stop : Stop) → statuses.Full ≡ status_of stop → Blames stop d fits GivesNone disk disk' → IsFilled d disk
  full_by_stop stops.Memory is why = absurd (apart statuses.Full statuses.Memory refl is)
  full_by_stop stops.Disk is why = absurd (apart statuses.Full statuses.DiskFault refl is)
  full_by_stop (stops.Damaged file at) is why = absurd (apart statuses.Full statuses.Damaged refl is)
  full_by_stop stops.Inconsistent is why = absurd (apart statuses.Full statuses.Damaged refl is)
  full_by_stop stops.NotFound is why = absurd (apart statuses.Full statuses.NotFound refl is)
  full_by_stop stops.TooManyChannels is why = absurd (apart statuses.Full statuses.TooManyChannels refl is)
  full_by_stop stops.Full is why = why
  full_by_stop stops.Output is why = absurd (apart statuses.Full statuses.Output refl is)
  full_by_stop stops.Input is why = absurd (apart statuses.Full statuses.Input refl is)
  full_by_stop stops.Endless is why = absurd (apart statuses.Full statuses.Endless refl is)

  pub stop_fills : (ended : Status) (stop : Stop) → ended ≡ status_of stop → ended ≡ statuses.Full →
      Blames stop d fits GivesNone disk disk' → IsFilled d disk
  stop_fills ended stop is at why = full_by_stop stop (sym at ∙ is) why

  -- ---- ends of requests

  named_by_end : (end : End) (output output' : Side) → statuses.Damaged ≡ end_status end → HasMounted d fits disk →
      ((file : File) (at : ℕ) → end ≡ ends.Damaged file at → ReadsBad d disk' file at) →
      EndsWith (end_line end) output output' → NamesDamage d disk disk' output output'
  named_by_end ends.Ended output output' is was place line = absurd (apart statuses.Damaged statuses.Done refl is)
  named_by_end (ends.Unreadable request) output output' is was place line = absurd (apart statuses.Damaged statuses.Unreadable refl is)
  named_by_end ends.Memory output output' is was place line = absurd (apart statuses.Damaged statuses.Memory refl is)
  named_by_end ends.Endless output output' is was place line = absurd (apart statuses.Damaged statuses.Endless refl is)
  named_by_end ends.Disk output output' is was place line = absurd (apart statuses.Damaged statuses.DiskFault refl is)
  named_by_end (ends.Damaged file at) output output' is was place line =
      record { file = file; at = at; line = line; damaged = mounted was (place file at refl) }
  named_by_end ends.Input output output' is was place line = absurd (apart statuses.Damaged statuses.Input refl is)
  named_by_end ends.Output output output' is was place line = absurd (apart statuses.Damaged statuses.Output refl is)

  pub end_names : (ended : Status) (end : End) (output before output' : Side) → ended ≡ end_status end → ended ≡ statuses.Damaged →
      HasMounted d fits disk → ((file : File) (at : ℕ) → end ≡ ends.Damaged file at → ReadsBad d disk' file at) →
      output.faults ≤ before.faults → Said (end_line end) before output' →
      NamesDamage d disk disk' output output'
  end_names ended end output before output' is at was place later said =
      named_by_end end output output' (sym at ∙ is) was place (record { before = before; later = later; said = said })

  -- ---- ends of connections

  pub served_names : (ended : Status) (requests : ℕ) (end : ServeEnd) (output output' : Side) →
      EndsServing ended requests end output output' → ended ≡ statuses.Damaged → HasMounted d fits disk →
      ((file : File) (at : ℕ) → end ≡ serving.Damaged file at → ReadsBad d disk' file at) →
      NamesDamage d disk disk' output output'
  served_names ended requests serving.Done output output' (inl done) is was place =
      absurd (apart statuses.Done statuses.Damaged refl (sym done.0 ∙ is))
  served_names ended requests serving.Done output output' (inr unsaid) is was place =
      absurd (apart statuses.Output statuses.Damaged refl (sym unsaid.0 ∙ is))
  served_names ended requests serving.Listener output output' wrote is was place =
      absurd (apart statuses.ListenerFault statuses.Damaged refl (sym wrote.0 ∙ is))
  served_names ended requests serving.Memory output output' wrote is was place =
      absurd (apart statuses.Memory statuses.Damaged refl (sym wrote.0 ∙ is))
  served_names ended requests serving.Disk output output' wrote is was place =
      absurd (apart statuses.DiskFault statuses.Damaged refl (sym wrote.0 ∙ is))
  served_names ended requests (serving.Damaged file at) output output' wrote is was place = record {
    file = file;
    at = at;
    line = record { before = output; later = le_refl output.faults; said = wrote.1 };
    damaged = mounted was (place file at refl);
  }

full_by_end : (end : End) → statuses.Full ≡ end_status end → ⊥
full_by_end ends.Ended is = apart statuses.Full statuses.Done refl is
full_by_end (ends.Unreadable request) is = apart statuses.Full statuses.Unreadable refl is
full_by_end ends.Memory is = apart statuses.Full statuses.Memory refl is
full_by_end ends.Endless is = apart statuses.Full statuses.Endless refl is
full_by_end ends.Disk is = apart statuses.Full statuses.DiskFault refl is
full_by_end (ends.Damaged file at) is = apart statuses.Full statuses.Damaged refl is
full_by_end ends.Input is = apart statuses.Full statuses.Input refl is
full_by_end ends.Output is = apart statuses.Full statuses.Output refl is

pub end_not_full : (ended : Status) (end : End) → ended ≡ end_status end → ended ≡ statuses.Full → ⊥
end_not_full ended end is at = full_by_end end (sym at ∙ is)

pub served_not_full : (ended : Status) (requests : ℕ) (end : ServeEnd) (output output' : Side) →
    EndsServing ended requests end output output' → ended ≡ statuses.Full → ⊥
served_not_full ended requests serving.Done output output' (inl done) is = apart statuses.Done statuses.Full refl (sym done.0 ∙ is)
served_not_full ended requests serving.Done output output' (inr unsaid) is = apart statuses.Output statuses.Full refl (sym unsaid.0 ∙ is)
served_not_full ended requests serving.Listener output output' wrote is =
    apart statuses.ListenerFault statuses.Full refl (sym wrote.0 ∙ is)
served_not_full ended requests serving.Memory output output' wrote is = apart statuses.Memory statuses.Full refl (sym wrote.0 ∙ is)
served_not_full ended requests serving.Disk output output' wrote is = apart statuses.DiskFault statuses.Full refl (sym wrote.0 ∙ is)
served_not_full ended requests (serving.Damaged file at) output output' wrote is =
    apart statuses.Damaged statuses.Full refl (sym wrote.0 ∙ is)

-- ---- from the start on

module _ {D : Type 0} {d : Ghosts D} {old mid : D} (alone : IsLeftAlone d old mid) where
  mounted_from : HasMounted d fits mid → HasMounted d fits old
  mounted_from was = record {
    run = was.run;
    number = λ image seen. was.number image (alone.same ∙ seen);
    runs_left = λ image seen. was.runs_left image (alone.same ∙ seen);
  }

  damaged_from : (file : File) (at : ℕ) (new : D) → IsDamaged d file at mid new → IsDamaged d file at old new
  damaged_from file at new (at_start bad) = at_start (λ image seen. bad image (alone.same ∙ seen))
  damaged_from file at new (mounted was place) = mounted (mounted_from was) place
  damaged_from file at new (contradicted was first zero) = contradicted (mounted_from was) first zero

  pub names_from : (new : D) (output output' : Side) → NamesDamage d mid new output output' → NamesDamage d old new output output'
  names_from new output output' names = record {
    file = names.file;
    at = names.at;
    line = names.line;
    damaged = damaged_from names.file names.at new names.damaged;
  }

  pub fills_from : IsFilled d mid → IsFilled d old
  fills_from (inl had) = inl (λ image seen. had image (alone.same ∙ seen))
  fills_from (inr was) = inr (mounted_from was)
