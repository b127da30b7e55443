use Rattle.std.proofs.Common.{◌≡◌, ◌∙◌, ℕ, arith, refl, sym, ap}
use Rattle.std.specs.Prelude.{Result, Ok, Err}
use Rattle.std.proofs.lemmas.Result.{err_from_is_err_and}
use Rattle.ix_manifest.specs.declared.fault.CheckpointFault.{CheckpointFault}
use Rattle.ix_base.specs.declared.files.File.{File}
use Rattle.ix_disk.proofs.Runs.{rose_later}
use Rattle.ix_commit.specs.declared.fault.CommitFault.{CommitFault}
use Rattle.ix_commit.specs.declared.fault.CommitFault.TheVariants as commits
use Rattle.ix_commit.proofs.Reading.{anyhow_same, anyhow_through}
use Rattle.ix_run.specs.Resting.{is_failed}
use Rattle.ix_run.proofs.Gone.{settled_short, settled_none, stood_here, stood_either, stood_short}
use Rattle.ix_run.proofs.giving.commit_due.Goals as goal

not_ok : {done : Unit} {fault : CommitFault} → (let result : Result Unit CommitFault = Ok done in result ≡ Err fault) → ⊥
not_ok is = cc

not_damaged : (file : File) (at : ℕ) → (let result : Result Unit CommitFault = Err commits.Disk in result ≡ Err (commits.Damaged file at)) →
    ⊥
not_damaged file at is = cc

pub returns-then-not-due : goal.returns-then-not-due
returns-then-not-due g c = record {
  gone = λ choose h base k chooser taken hold.
      settled_none g.D.Disk _ c.args.store.now.run g.M.StoreMemory.holds choose h base k c.args.store.now c.args.disk.now refl hold
      (sym (c.due-due.ensures choose h base k hold.old hold.staged) ∙ c.if-not-due.true);
  stood = λ choose h base k chooser taken hold. stood_here g.D.Disk _ c.args.store.now.run g.M.StoreMemory.holds choose h base k k
      c.args.store.now c.args.disk.now refl (omega arith) hold;
  over = c.requires;
  measured = λ measured. measured;
  closed = tt;
  run = refl;
  undamaged = λ file at is. absurd (not_ok is);
  placed = λ file at is. absurd (not_ok is);
  told = anyhow_same (g.D.Disk.seen c.args.disk.now) (g.D.Disk.seen c.args.disk.now) refl;
  later = omega arith;
  cause = tt;
}

pub returns-in_err-commit : goal.returns-in_err-commit
returns-in_err-commit g c =
    let p = err_from_is_err_and c.from_residual.result c.from_residual.ensures.1 in
    rw (p.1, p.2) (record {
      gone = tt;
      stood = λ choose h base k chooser taken hold.
          stood_either g.D.Disk _ c.args.store.now.run g.M.StoreMemory.holds choose h c.args.store.now.run k c.args.disk.now
          c.commit.new.disk (omega arith) hold.staged.within (c.commit.ensures.images choose h base k hold);
      over = tt;
      measured = λ measured. tt;
      closed = c.in_err-commit.ensures.closed;
      run = c.commit.ensures.run;
      undamaged = c.in_err-commit.ensures.undamaged;
      placed = λ file at is. (c.in_err-commit.ensures.damaged file at is).1;
      told = c.commit.ensures.told;
      later = c.commit.ensures.later;
      cause = λ is. c.commit.ensures.cause (c.in_err-commit.was ∙ ap (λ (f : CommitFault). Err f) is);
    })

pub returns-in-Ok : goal.returns-in-Ok
returns-in-Ok g c = record {
  gone = λ choose h base k chooser taken hold.
      let all = c.in_ok-commit.ensures.done choose h base k hold in
      settled_short g.D.Disk _ c.args.store.now.run g.M.StoreMemory.holds choose h c.args.store.now.run c.commit.new.self.run base k
      c.shorten.new.store c.args.disk.now c.commit.new.disk c.shorten.new.disk (c.shorten.ensures.run
      ∙ c.commit.ensures.run) (omega arith) (omega (arith, c.commit.ensures.run)) hold.staged.within
      (c.in-Ok.ensures.held refl choose h base chooser taken all) (c.commit.ensures.images choose h base k hold)
      (c.shorten.ensures.images choose h base chooser taken all);
  stood = λ choose h base k chooser taken hold.
      stood_short g.D.Disk _ c.args.store.now.run g.M.StoreMemory.holds choose h c.args.store.now.run c.commit.new.self.run k
      c.args.disk.now c.commit.new.disk c.shorten.new.disk (omega arith) (omega (arith, c.commit.ensures.run)) hold.staged.within
      (c.commit.ensures.images choose h base k hold) (c.shorten.ensures.images choose h base chooser taken
      (c.in_ok-commit.ensures.done choose h base k hold));
  over = c.in-Ok.ensures.over refl;
  measured = λ measured. (c.in-Ok.ensures.rest refl (record {
    over = c.in_ok-commit.ensures.over;
    idle = c.in_ok-commit.ensures.idle;
    measured = c.in_ok-commit.ensures.measured (λ idle. measured);
  })).measured;
  closed = tt;
  run = c.shorten.ensures.run ∙ c.commit.ensures.run;
  undamaged = λ file at is. absurd (not_ok is);
  placed = λ file at is. absurd (not_ok is);
  told = anyhow_through (g.D.Disk.seen c.args.disk.now) (g.D.Disk.seen c.commit.new.disk) (g.D.Disk.seen c.shorten.new.disk)
      c.commit.ensures.told c.shorten.ensures.told;
  later = omega (arith, c.commit.ensures.later, c.shorten.ensures.later);
  cause = tt;
}

pub returns-in-Err-NoMemory : goal.returns-in-Err-NoMemory
returns-in-Err-NoMemory g c = record {
  gone = λ choose h base k chooser taken hold.
      let all = c.in_ok-commit.ensures.done choose h base k hold in
      settled_short g.D.Disk _ c.args.store.now.run g.M.StoreMemory.holds choose h c.args.store.now.run c.commit.new.self.run base k
      c.shorten.new.store c.args.disk.now c.commit.new.disk c.shorten.new.disk (c.shorten.ensures.run
      ∙ c.commit.ensures.run) (omega arith) (omega (arith, c.commit.ensures.run)) hold.staged.within
      (c.in-Err-NoMemory.ensures.held (ap (λ (f : CheckpointFault). is_failed (Err f)) c.in-Err-NoMemory.field-0-is) choose h base chooser
      taken all) (c.commit.ensures.images choose h base k hold)
      (c.shorten.ensures.images choose h base chooser taken all);
  stood = λ choose h base k chooser taken hold.
      stood_short g.D.Disk _ c.args.store.now.run g.M.StoreMemory.holds choose h c.args.store.now.run c.commit.new.self.run k
      c.args.disk.now c.commit.new.disk c.shorten.new.disk (omega arith) (omega (arith, c.commit.ensures.run)) hold.staged.within
      (c.commit.ensures.images choose h base k hold) (c.shorten.ensures.images choose h base chooser taken
      (c.in_ok-commit.ensures.done choose h base k hold));
  over = c.in-Err-NoMemory.ensures.over (ap (λ (f : CheckpointFault). is_failed (Err f)) c.in-Err-NoMemory.field-0-is);
  measured = λ measured.
      (c.in-Err-NoMemory.ensures.rest (ap (λ (f : CheckpointFault). is_failed (Err f)) c.in-Err-NoMemory.field-0-is)
      (record {
        over = c.in_ok-commit.ensures.over;
        idle = c.in_ok-commit.ensures.idle;
        measured = c.in_ok-commit.ensures.measured (λ idle. measured);
      })).measured;
  closed = tt;
  run = c.shorten.ensures.run ∙ c.commit.ensures.run;
  undamaged = λ file at is. absurd (not_ok is);
  placed = λ file at is. absurd (not_ok is);
  told = anyhow_through (g.D.Disk.seen c.args.disk.now) (g.D.Disk.seen c.commit.new.disk) (g.D.Disk.seen c.shorten.new.disk)
      c.commit.ensures.told c.shorten.ensures.told;
  later = omega (arith, c.commit.ensures.later, c.shorten.ensures.later);
  cause = tt;
}

pub returns-in-Err-Disk : goal.returns-in-Err-Disk
returns-in-Err-Disk g c = record {
  gone = tt;
  stood = λ choose h base k chooser taken hold.
      stood_short g.D.Disk _ c.args.store.now.run g.M.StoreMemory.holds choose h c.args.store.now.run c.commit.new.self.run k
      c.args.disk.now c.commit.new.disk c.shorten.new.disk (omega arith) (omega (arith, c.commit.ensures.run)) hold.staged.within
      (c.commit.ensures.images choose h base k hold) (c.shorten.ensures.images choose h base chooser taken
      (c.in_ok-commit.ensures.done choose h base k hold));
  over = tt;
  measured = λ measured. tt;
  closed = c.shorten.ensures.closed (c.in-Err-Disk.is ∙ ap (λ (f : CheckpointFault). Err f) c.in-Err-Disk.field-0-is);
  run = c.shorten.ensures.run ∙ c.commit.ensures.run;
  undamaged = λ file at is. absurd (not_damaged file at is);
  placed = λ file at is. absurd (not_damaged file at is);
  told = anyhow_through (g.D.Disk.seen c.args.disk.now) (g.D.Disk.seen c.commit.new.disk) (g.D.Disk.seen c.shorten.new.disk)
      c.commit.ensures.told c.shorten.ensures.told;
  later = omega (arith, c.commit.ensures.later, c.shorten.ensures.later);
  cause = λ is.
      rose_later (g.D.Disk.faults c.args.disk.now) (g.D.Disk.faults c.commit.new.disk) (g.D.Disk.faults c.shorten.new.disk)
      c.commit.ensures.later (c.shorten.ensures.cause (c.in-Err-Disk.is
      ∙ ap (λ (f : CheckpointFault). Err f) c.in-Err-Disk.field-0-is));
}
