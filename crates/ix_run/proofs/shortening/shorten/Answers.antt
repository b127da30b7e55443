use Rattle.std.proofs.Common.{◌≡◌, Bool, true, false, refl, sym, subst, arith}
use Rattle.std.specs.Prelude.{Result, Ok, Err, OnOk, IsErrOf}
use Rattle.std.proofs.lemmas.Bool.{true≢false}
use Rattle.ix_manifest.specs.declared.fault.CheckpointFault.{CheckpointFault}
use Rattle.ix_manifest.specs.declared.fault.CheckpointFault.TheVariants as faults
use Rattle.ix_commit.specs.Snapshot.{NothingStaged}
use Rattle.ix_commit.proofs.Reading.{anyhow_same}
use Rattle.ix_store.specs.declared.store.Store.{Store}
use Rattle.ix_store.proofs.Shortened.{stands_still}
use Rattle.ix_run.specs.Resting.{is_failed}
use Rattle.ix_run.proofs.Rested.{short_made, short_known}
use Rattle.ix_run.proofs.shortening.shorten.Goals as goal

both : {b : Bool} → b ≡ true → b ≡ false → ⊥
both t f = cc

not_err : {done : Unit} {fault : CheckpointFault} → (let result : Result Unit CheckpointFault = Ok done in result ≡ Err fault) → ⊥
not_err is = cc

idle_still : {M : Type 0} (store later : Store M) → later ≡ store → NothingStaged store.committer → NothingStaged later.committer
idle_still {M} store later same is = subst (λ (x : Store M). NothingStaged x.committer) (sym same) is

-- where the disk has not failed all was done, or there was no room

by_result : (result : Result Unit CheckpointFault) (P : Type 0) → OnOk result P → (IsErrOf result faults.NoMemory → P) →
    is_failed result ≡ false → P
by_result (Ok done) P ok still fine = ok
by_result (Err faults.NoMemory) P ok still fine = still refl
by_result (Err faults.Disk) P ok still fine = absurd (true≢false fine)

by_both : (result : Result Unit CheckpointFault) (P Q R : Type 0) → (P → Q → R) → OnOk result P → OnOk result Q → OnOk result R
by_both (Ok done) P Q R so p q = so p q
by_both (Err fault) P Q R so p q = tt

pub returns-then-not-long : goal.returns-then-not-long
returns-then-not-long g c = record {
  images = λ choose h base chooser taken hold.
      stands_still g.D.Disk _ g.M.StoreMemory.holds choose h base c.args.store.now c.args.disk.now hold c.requires.idle;
  held = λ fine choose h base chooser taken hold. hold;
  over = λ fine. c.requires.over;
  idle = λ fine. c.requires.idle;
  rest = λ fine rest. rest;
  short = λ measured.
      short_known g.D.Disk (λ image disk told. g.met.D.Disk.seen_may_stay disk image told) c.args.store.now.committer c.args.disk.now
      c.requires.over measured
      (λ long. both (c.wants_checkpoint-long.ensures.1 long) c.if-not-long.true);
  none = λ short. (refl, (refl, refl));
  memory = λ is. refl;
  run = refl;
  closed = λ is. absurd (not_err is);
  told = anyhow_same (g.D.Disk.seen c.args.disk.now) (g.D.Disk.seen c.args.disk.now) refl;
  later = omega arith;
  cause = λ is. absurd (not_err is);
}

pub checkpoint-requires-clause-over : goal.checkpoint-requires-clause-over
checkpoint-requires-clause-over g c = c.requires.over

pub checkpoint-requires-clause-idle : goal.checkpoint-requires-clause-idle
checkpoint-requires-clause-idle g c = c.requires.idle

pub returns : goal.returns
returns g c =
    let result = c.checkpoint.result in
    let is = c.checkpoint.ensures in
    let still : IsErrOf result faults.NoMemory → NothingStaged c.checkpoint.new.self.committer =
    λ want. idle_still c.args.store.now c.checkpoint.new.self (is.memory want) c.requires.idle in
    record {
      images = is.images;
      held = λ fine choose h base chooser taken hold. by_result result _ (is.done choose h base chooser taken hold)
          (λ want. is.held_still want choose h base chooser taken hold) fine;
      over = by_result result _ is.over is.over_still;
      idle = by_result result _ is.idle still;
      rest = λ fine rest. record {
        over = by_result result _ is.over is.over_still fine;
        idle = by_result result _ is.idle still fine;
        measured = by_result result _ is.measured (λ want. is.measured_still want rest.measured) fine;
      };
      short =
          by_both result _ _ _ (λ over shortest measured.
          short_made g.D.Disk (λ image disk told. g.met.D.Disk.seen_may_stay disk image told) c.checkpoint.new.self.committer
          c.checkpoint.new.disk over shortest)
          is.over is.shortest;
      none = λ short. absurd (short (c.wants_checkpoint-long.ensures.0 c.if-not-long.false));
      memory = is.memory;
      run = is.run;
      closed = is.closed;
      told = is.told;
      later = is.later;
      cause = is.cause;
    }
