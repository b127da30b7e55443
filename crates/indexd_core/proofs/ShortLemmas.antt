-- Runs that leave the log short, by their statuses.
use Rattle.std.proofs.Common.{◌≡◌, ◌⊎◌, ◌∙◌, ℕ, Bool, true, false, inl, inr, refl, sym, ap, subst}
use Rattle.std.specs.Prelude.{Result, Ok, Err}
use Rattle.ix_disk.specs.declared.disk.Disk.{Ghosts}
use Rattle.ix_replay.specs.Fits.{fits}
use Rattle.ix_run.specs.Resting.{ReadsShort}
use Rattle.indexd_serve.specs.Ends.{fed_of, is_short, is_short_served}
use Rattle.indexd_serve.specs.declared.end.End.{End}
use Rattle.indexd_serve.specs.declared.end.End.TheVariants as ends
use Rattle.indexd_serve.specs.declared.end.ServeEnd.{ServeEnd}
use Rattle.indexd_serve.specs.declared.end.ServeEnd.TheVariants as serving
use Rattle.indexd_run.specs.Shortened as runs
use Rattle.indexd_run.specs.Shortened.{EndsShort, StopsShort, HasHadItsRuns}
use Rattle.indexd_run.specs.declared.stop.Stop.{Stop}
use Rattle.indexd_run.specs.declared.stop.Stop.TheVariants as stops
use Rattle.indexd_core.specs.Feeds.{end_status}
use Rattle.indexd_core.specs.Locked.{IsLeftAlone}
use Rattle.indexd_core.specs.Serves.{EndsServing}
use Rattle.indexd_core.specs.Shortened.{is_short_at, LeavesShort}
use Rattle.indexd_core.specs.Sides.{Side}
use Rattle.indexd_core.specs.Stored.{status_of}
use Rattle.indexd_core.specs.declared.status.Status.{Status}
use Rattle.indexd_core.specs.declared.status.Status.TheVariants as statuses

-- ---- stops

stop_as : (stop : Stop) → is_short_at (status_of stop) ≡ runs.is_short_at stop
stop_as stops.Memory = refl
stop_as stops.Disk = refl
stop_as (stops.Damaged file at) = refl
stop_as stops.Inconsistent = refl
stop_as stops.NotFound = refl
stop_as stops.TooManyChannels = refl
stop_as stops.Full = refl
stop_as stops.Output = refl
stop_as stops.Input = refl
stop_as stops.Endless = refl

module _ {D : Type 0} (d : Ghosts D) (disk disk' : D) where
  by : (ended : Status) (stop : Stop) → ended ≡ status_of stop → ReadsShort d disk' ⊎ ((stop ≡ stops.Full) × HasHadItsRuns d fits disk) →
      ReadsShort d disk' ⊎ (IsLeftAlone d disk disk' ⊎ ((ended ≡ statuses.Full) × HasHadItsRuns d fits disk))
  by ended stop is (inl short) = inl short
  by ended stop is (inr had) = inr (inr (is ∙ ap status_of had.0, had.1))

  pub left_at_stop : (ended : Status) (stop : Stop) → ended ≡ status_of stop → StopsShort d fits stop disk disk' →
      LeavesShort ended d disk disk'
  left_at_stop ended stop is short = λ ok. by ended stop is (short (sym (stop_as stop) ∙ (ap is_short_at (sym is) ∙ ok)))

  pub left_at_err : (result : Result Unit Stop) (ended : Status) (stop : Stop) → result ≡ Err stop → ended ≡ status_of stop →
      EndsShort d fits result disk disk' → LeavesShort ended d disk disk'
  left_at_err result ended stop same is short = left_at_stop ended stop is
      (subst (λ (r : Result Unit Stop). EndsShort d fits r disk disk') same short)

  pub left_at_ok : (result : Result Unit Stop) (ended : Status) (done : Unit) → result ≡ Ok done → EndsShort d fits result disk disk' →
      LeavesShort ended d disk disk'
  left_at_ok result ended done same short = λ ok. inl (subst (λ (r : Result Unit Stop). EndsShort d fits r disk disk') same short)

-- ---- ends

end_as : (end : End) → is_short_at (end_status end) ≡ is_short (fed_of end)
end_as ends.Ended = refl
end_as (ends.Unreadable request) = refl
end_as ends.Memory = refl
end_as ends.Endless = refl
end_as ends.Disk = refl
end_as (ends.Damaged file at) = refl
end_as ends.Input = refl
end_as ends.Output = refl

pub end_short : (ended : Status) (end : End) → ended ≡ end_status end → is_short_at ended ≡ true → is_short (fed_of end) ≡ true
end_short ended end is ok = sym (end_as end) ∙ (ap is_short_at (sym is) ∙ ok)

other : (ended at : Status) → ended ≡ at → is_short_at at ≡ false → is_short_at ended ≡ true → ⊥
other ended at is long ok = let e : true ≡ false = sym ok ∙ (ap is_short_at is ∙ long) in cc

pub serve_short : (ended : Status) (requests : ℕ) (end : ServeEnd) (output output' : Side) → EndsServing ended requests end output output' →
    is_short_at ended ≡ true → is_short_served end ≡ true
serve_short ended requests serving.Done output output' wrote ok = refl
serve_short ended requests serving.Listener output output' wrote ok = refl
serve_short ended requests serving.Memory output output' wrote ok = absurd (other ended statuses.Memory wrote.0 refl ok)
serve_short ended requests serving.Disk output output' wrote ok = absurd (other ended statuses.DiskFault wrote.0 refl ok)
serve_short ended requests (serving.Damaged file at) output output' wrote ok = absurd (other ended statuses.Damaged wrote.0 refl ok)
