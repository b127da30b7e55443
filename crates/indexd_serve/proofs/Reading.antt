-- What was read of requests is what it was once the log behind them was made short.
use Rattle.std.proofs.Common.{◌≡◌, ◌≤◌, ℕ, List, subst, sym, arith}
use Rattle.std.specs.Prelude.{Option, Result, Ok, Err}
use Rattle.ix_manifest.specs.declared.fault.CheckpointFault.{CheckpointFault}
use Rattle.ix_manifest.specs.declared.fault.CheckpointFault.TheVariants as checkpoints
use Rattle.ix_sessions.specs.Connections.{Listened}
use Rattle.ix_sessions.specs.Reading.{AsMany, HearsMany, ReadsTo}
use Rattle.ix_sessions.specs.declared.feed.Fed.{Fed}
use Rattle.ix_sessions.specs.declared.feed.Fed.TheVariants as fed
use Rattle.ix_sessions.specs.declared.serve.Heard.{Heard}
use Rattle.ix_sessions.specs.declared.serve.Heard.TheVariants as heard
use Rattle.ix_sessions.proofs.Reading.{read_failed}
use Rattle.ix_commit.specs.declared.fault.CommitFault.TheVariants as commits
use Rattle.indexd_serve.specs.Ends.{AsManyServed, fed_behind, heard_behind, heard_end}
use Rattle.indexd_serve.specs.declared.end.ServeEnd.{ServeEnd}

shortened_reads : (first : Fed) (shortened : Result Unit CheckpointFault) (left left' : Option (List ℕ)) → ReadsTo first left left' →
    ReadsTo (fed_behind first shortened) left left'
shortened_reads first (Ok done) left left' reads = reads
shortened_reads first (Err checkpoints.Disk) left left' reads = read_failed first (fed.Broken commits.Disk) left left' tt reads
shortened_reads first (Err checkpoints.NoMemory) left left' reads = read_failed first fed.NoMemory left left' tt reads

pub reads_behind : (first : Fed) (shortened : Result Unit CheckpointFault) (end : Fed) (left left' : Option (List ℕ)) →
    end ≡ fed_behind first shortened → ReadsTo first left left' → ReadsTo end left left'
reads_behind first shortened end left left' is reads = subst (λ (e : Fed). ReadsTo e left left') (sym is)
    (shortened_reads first shortened left left' reads)

ended_many : (requests count : ℕ) (first : Heard) → AsMany requests first count → AsManyServed requests (heard_end first) count
ended_many requests count heard.Done is = is
ended_many requests count heard.Listener is = is
ended_many requests count (heard.Broken commits.Disk) is = is
ended_many requests count (heard.Broken (commits.Damaged file at)) is = is

most_many : (requests count : ℕ) (first : Heard) → AsMany requests first count → count ≤ requests
most_many requests count heard.Done is = omega (arith, is)
most_many requests count heard.Listener is = omega (arith, is)
most_many requests count (heard.Broken cause) is = is

shortened_many : (requests count : ℕ) (first : Heard) (shortened : Result Unit CheckpointFault) → AsMany requests first count →
    AsManyServed requests (heard_behind first shortened) count
shortened_many requests count first (Ok done) is = ended_many requests count first is
shortened_many requests count first (Err checkpoints.Disk) is = most_many requests count first is
shortened_many requests count first (Err checkpoints.NoMemory) is = most_many requests count first is

module _ (requests : ℕ) (first : Heard) (from to : Listened) (hears : HearsMany (AsMany requests first) from to) (end : ServeEnd) where
  as_many : ((count : ℕ) → AsMany requests first count → AsManyServed requests end count) → HearsMany (AsManyServed requests end) from to
  as_many so = record { reads = hears.reads; are = hears.are; made = so _ hears.made }

  pub hears_closed : end ≡ heard_end first → HearsMany (AsManyServed requests end) from to
  hears_closed is = as_many (λ count many. subst (λ (e : ServeEnd). AsManyServed requests e count) (sym is)
      (ended_many requests count first many))

  pub hears_behind : (shortened : Result Unit CheckpointFault) → end ≡ heard_behind first shortened →
      HearsMany (AsManyServed requests end) from to
  hears_behind shortened is = as_many (λ count many. subst (λ (e : ServeEnd). AsManyServed requests e count) (sym is)
      (shortened_many requests count first shortened many))
