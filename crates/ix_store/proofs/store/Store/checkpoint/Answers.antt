use Rattle.std.proofs.Common.{Result, Ok, Err, refl, ap, subst, arith}
use Rattle.std.specs.Prelude.{OnOk, IsErrOf}
use Rattle.ix_manifest.specs.declared.fault.CheckpointFault.{CheckpointFault}
use Rattle.ix_manifest.specs.declared.fault.CheckpointFault.TheVariants as faults
use Rattle.ix_disk.proofs.Runs.{always_weaker}
use Rattle.ix_commit.specs.Snapshot.{Held}
use Rattle.ix_commit.specs.declared.committer.Committer.{Committer}
use Rattle.ix_commit.proofs.Reading.{anyhow_same}
use Rattle.ix_store.specs.declared.store.Store.{Store}
use Rattle.ix_store.proofs.Shortened.{held_both, tells, fit_short, stands_short, stands_still, holds_still, holds_short, room_for}
use Rattle.ix_store.proofs.store.Store.checkpoint.Goals as goal

not_disk : IsErrOf {T = Unit} (Err faults.NoMemory) faults.Disk → ⊥
not_disk is = cc

abbrev with_committer : {M : Type 0} → Store M → Committer → Store M
with_committer s committer = record {
  alloc = s.alloc;
  memory = s.memory;
  committer = committer;
  run = s.run;
  drawn = s.drawn;
  committed = s.committed;
  group = s.group;
  closed = s.closed;
}

both_ok : (result : Result Unit CheckpointFault) (P Q R : Type 0) → (P → Q → R) → OnOk result P → OnOk result Q → OnOk result R
both_ok (Ok done) P Q R so p q = so p q
both_ok (Err fault) P Q R so p q = tt

pub checkpoint-requires-clause-short : goal.checkpoint-requires-clause-short
checkpoint-requires-clause-short g c = room_for _ c.args.self.now.run _ c.in-Ok.ensures.short

pub returns-in-Err-TooLong : goal.returns-in-Err-TooLong
returns-in-Err-TooLong g c = record {
  images = λ choose h base chooser given hold. stands_still g.D.Disk _ g.M.StoreMemory.holds choose h base c.args.self.now c.args.disk.now
      hold c.requires.idle;
  done = λ choose h base chooser given hold. tt;
  shortest = tt;
  over = tt;
  idle = tt;
  measured = tt;
  memory = λ is. refl;
  held_still = λ is choose h base chooser given hold. hold;
  over_still = λ is. c.requires.over;
  measured_still = λ is measured. measured;
  run = refl;
  kept = refl;
  closed = λ is. absurd (not_disk is);
  told = anyhow_same (g.D.Disk.seen c.args.disk.now) (g.D.Disk.seen c.args.disk.now) refl;
  later = omega arith;
  cause = λ is. absurd (not_disk is);
}

pub returns : goal.returns
returns g c =
    let idle = c.requires.idle in
    let told = g.M.Listing.ahead c.args.self.now.memory c.in-Ok.walk in
    record {
      images = λ choose h base chooser given hold.
          let listed = c.in-Ok.ensures.listed choose h chooser given hold.staged.memory in
          always_weaker g.D.Disk c.args.disk.now c.checkpoint.new.disk _ _
          (stands_short g.D.Disk _ g.M.StoreMemory.holds choose h base c.args.self.now c.args.disk.now hold idle)
          (c.checkpoint.ensures.images hold.old (held_both g.D.Disk _ g.M.StoreMemory.holds choose h base c.args.self.now c.args.disk.now
          hold idle)
          (tells g.D.Disk _ g.M.StoreMemory.holds choose h base c.args.self.now c.args.disk.now hold idle told listed
          (g.met.M.Listing.fits_with_log choose h))
          (fit_short g.D.Disk _ g.M.StoreMemory.holds choose h base c.args.self.now c.args.disk.now hold idle told listed
          (g.met.M.Listing.fits_with_log choose h)));
      done = λ choose h base chooser given hold.
          let listed = c.in-Ok.ensures.listed choose h chooser given hold.staged.memory in
          both_ok c.checkpoint.result _ _ _
          (λ held now_idle. holds_short g.D.Disk _ g.M.StoreMemory.holds choose h base c.args.self.now c.args.disk.now hold idle _
          c.checkpoint.new.disk held now_idle refl refl refl refl refl refl)
          (c.checkpoint.ensures.done hold.old (held_both g.D.Disk _ g.M.StoreMemory.holds choose h base c.args.self.now c.args.disk.now hold
          idle)
          (tells g.D.Disk _ g.M.StoreMemory.holds choose h base c.args.self.now c.args.disk.now hold idle told listed
          (g.met.M.Listing.fits_with_log choose h))
          (fit_short g.D.Disk _ g.M.StoreMemory.holds choose h base c.args.self.now c.args.disk.now hold idle told listed
          (g.met.M.Listing.fits_with_log choose h)))
          c.checkpoint.ensures.idle;
      shortest = c.checkpoint.ensures.shortest;
      over = c.checkpoint.ensures.over;
      idle = c.checkpoint.ensures.idle;
      measured = c.checkpoint.ensures.measured;
      memory = λ is. ap (with_committer c.args.self.now) (c.checkpoint.ensures.memory is);
      held_still = λ is choose h base chooser given hold.
          let same = c.checkpoint.ensures.memory is in
          holds_still g.D.Disk _ g.M.StoreMemory.holds choose h base c.args.self.now c.args.disk.now hold idle _ c.checkpoint.new.disk
          (ap (with_committer c.args.self.now) same)
          (subst (λ (k : Committer). Held g.D.Disk g.M.Book.ManifestState.fits k c.checkpoint.new.disk hold.old hold.old) same
          (c.checkpoint.ensures.held_still is hold.old (held_both g.D.Disk _ g.M.StoreMemory.holds choose h base c.args.self.now
          c.args.disk.now hold idle)));
      over_still = c.checkpoint.ensures.over_still;
      measured_still = c.checkpoint.ensures.measured_still;
      run = refl;
      kept = refl;
      closed = c.checkpoint.ensures.closed;
      told = c.checkpoint.ensures.told;
      later = c.checkpoint.ensures.later;
      cause = c.checkpoint.ensures.cause;
    }
