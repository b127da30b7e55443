-- What a run of requests has read by its end.
use Rattle.std.proofs.Common.{◌≡◌, [], refl, subst}
use Rattle.std.specs.Prelude.{IfSome}
use Rattle.ix_disk.specs.declared.disk.Disk.{Ghosts}
use Rattle.ix_sessions.proofs.Ended.{ended}
use Rattle.ix_sessions.specs.Reading.{ReadsTo}
use Rattle.ix_sessions.specs.declared.feed.Fed.{Fed}
use Rattle.ix_sessions.specs.declared.feed.Fed.TheVariants as fed
use Rattle.indexd_serve.specs.Ends.{fed_of}
use Rattle.indexd_serve.specs.declared.end.End.{End}
use Rattle.indexd_serve.specs.declared.end.End.TheVariants as ends
use Rattle.indexd_run.specs.declared.stop.Stop.{Stop}
use Rattle.indexd_run.specs.declared.stop.Stop.TheVariants as stops
use Rattle.indexd_run.specs.Opened.{Course}
use Rattle.indexd_core.specs.Feeds as feeds
use Rattle.indexd_core.specs.Feeds.{FeedComes, Feeds, end_status}
use Rattle.indexd_core.specs.Sides.{Side}
use Rattle.indexd_core.specs.Stored as stored
use Rattle.indexd_core.specs.Stored.{status_of}
use Rattle.indexd_core.specs.declared.status.Status.TheVariants as statuses
use Rattle.indexd_core.proofs.LockedLemmas.{out_no}
use Rattle.indexd_core.proofs.StoredLemmas.{apart}
use Rattle.indexd_core.specs.Around.{Around}

no_stop : (stop : Stop) → statuses.Done ≡ status_of stop → ⊥
no_stop stops.Memory is = apart statuses.Done statuses.Memory refl is
no_stop stops.Disk is = apart statuses.Done statuses.DiskFault refl is
no_stop (stops.Damaged file at) is = apart statuses.Done statuses.Damaged refl is
no_stop stops.Inconsistent is = apart statuses.Done statuses.Damaged refl is
no_stop stops.NotFound is = apart statuses.Done statuses.NotFound refl is
no_stop stops.TooManyChannels is = apart statuses.Done statuses.TooManyChannels refl is
no_stop stops.Full is = apart statuses.Done statuses.Full refl is
no_stop stops.Output is = apart statuses.Done statuses.Output refl is
no_stop stops.Input is = apart statuses.Done statuses.Input refl is
no_stop stops.Endless is = apart statuses.Done statuses.Endless refl is

done_end : (end : End) → statuses.Done ≡ end_status end → fed_of end ≡ fed.Ended
done_end ends.Ended is = refl
done_end (ends.Unreadable request) is = absurd (apart statuses.Done statuses.Unreadable refl is)
done_end ends.Memory is = absurd (apart statuses.Done statuses.Memory refl is)
done_end ends.Endless is = absurd (apart statuses.Done statuses.Endless refl is)
done_end ends.Disk is = absurd (apart statuses.Done statuses.DiskFault refl is)
done_end (ends.Damaged file at) is = absurd (apart statuses.Done statuses.Damaged refl is)
done_end ends.Input is = absurd (apart statuses.Done statuses.Input refl is)
done_end ends.Output is = absurd (apart statuses.Done statuses.Output refl is)

module _ {D : Type 0} (d : Ghosts D) where
  of_comes : {run : Course D} {input input' output output' : Side} → FeedComes statuses.Done d run input input' output output' →
      IfSome input'.told (λ bytes. bytes ≡ [])
  of_comes (feeds.shut stop is from same line) = absurd (no_stop stop is)
  of_comes {input = input} {input' = input'} (feeds.served end middle is later after reads from line) =
      ended input.told input'.told (subst (λ (e : Fed). ReadsTo e input.told input'.told) (done_end end is) reads)

  pub all_read : (from to : Around D) → Feeds statuses.Done d from to → IfSome to.input.told (λ bytes. bytes ≡ [])
  all_read from to (stored.unread still wrote) = absurd wrote
  all_read from to (stored.locked_out config is out said) =
      absurd (out_no d from.disk to.disk statuses.Done statuses.Done out.2 refl refl)
  all_read from to (stored.ran config is comes) = of_comes comes
