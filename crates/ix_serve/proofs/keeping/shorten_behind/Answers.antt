use Rattle.std.proofs.Common.{◌∙◌, length, sym, ap, subst, refl, inl, inr, Err, arith}
use Rattle.std.specs.Prelude.{Result, IsErrOf}
use Rattle.std.proofs.lemmas.Bool.{false≢true}
use Rattle.ix_manifest.specs.declared.fault.CheckpointFault.{CheckpointFault}
use Rattle.ix_manifest.specs.declared.fault.CheckpointFault.TheVariants as faults
use Rattle.ix_disk.proofs.Runs.{rose_later}
use Rattle.ix_commit.specs.declared.fault.CommitFault.TheVariants as commits
use Rattle.ix_commit.proofs.Reading.{anyhow_same, anyhow_through}
use Rattle.ix_serve.proofs.Standing.{committing, standing}
use Rattle.ix_serve.proofs.Answering.{damaged_back, disk_back}
use Rattle.ix_serve.proofs.Behind.{ok_err, all_in, short_told, shortened_images, shortened_held}
use Rattle.ix_serve.proofs.Closing.{by_committer, not_damaged}
use Rattle.ix_serve.proofs.keeping.shorten_behind.Goals as goal

-- a command is staged, and nothing is done

pub returns-then-staged : goal.returns-then-staged
returns-then-staged g c = record {
  images = λ choose h base k chooser taken hold. standing g.D.Disk g.M.Book.ManifestState.fits g.M.StoreMemory.holds choose h base k
      c.args.store.now c.args.disk.now hold;
  held = λ choose h base k chooser taken hold. hold;
  short = λ choose h base k hold. inl (sym (c.staged.ensures choose h base k hold.old hold.staged) ∙ c.if-staged.true);
  long = λ is. absurd (false≢true is);
  cause = tt;
  undamaged = tt;
  over = c.requires.over;
  measured = λ measured. measured;
  closed = tt;
  placed = tt;
  run = refl;
  memory = refl;
  told = anyhow_same (g.D.Disk.seen c.args.disk.now) (g.D.Disk.seen c.args.disk.now) refl;
  later = omega arith;
  failed = tt;
}

-- the log is not long, and nothing is done

pub returns-then-not-long : goal.returns-then-not-long
returns-then-not-long g c = record {
  images = λ choose h base k chooser taken hold. standing g.D.Disk g.M.Book.ManifestState.fits g.M.StoreMemory.holds choose h base k
      c.args.store.now c.args.disk.now hold;
  held = λ choose h base k chooser taken hold. hold;
  short = λ choose h base k hold. inr (inl (λ is. false≢true (sym c.if-not-long.true ∙ c.wants_checkpoint-long.ensures.1 is)));
  long = λ is. absurd (false≢true is);
  cause = tt;
  undamaged = tt;
  over = c.requires.over;
  measured = λ measured. measured;
  closed = tt;
  placed = tt;
  run = refl;
  memory = refl;
  told = anyhow_same (g.D.Disk.seen c.args.disk.now) (g.D.Disk.seen c.args.disk.now) refl;
  later = omega arith;
  failed = tt;
}

-- with nothing staged no commit fails

pub returns-in-Err : goal.returns-in-Err
returns-in-Err g c = record {
  images = λ choose h base k chooser taken hold.
      committing g.M.Book.ManifestState.fits c.args.store.now.run choose h k hold.staged.within g.D.Disk c.args.disk.now c.commit.new.disk
      (c.commit.ensures.images choose h base k hold);
  held = tt;
  short = tt;
  long = tt;
  cause = (c.in-Err.cause, c.answer_of_fault.ensures);
  undamaged = λ choose h base k hold.
      let whole = all_in k (length h) hold.staged.within (sym (c.staged.ensures choose h base k hold.old hold.staged)
      ∙ c.if-staged.false) in
      absurd (ok_err (sym (c.commit.ensures.none (hold.staged.idle whole)).0 ∙ c.in-Err.is));
  over = tt;
  measured = λ measured. tt;
  closed = by_committer c.commit.new.self c.in-Err.ensures.closed;
  placed = λ file at is image seen. (c.in-Err.ensures.damaged file at
      (ap Err (damaged_back c.in-Err.cause file at (sym c.answer_of_fault.ensures ∙ is)))).1 image seen;
  run = c.commit.ensures.run;
  memory = c.commit.ensures.memory;
  told = c.commit.ensures.told;
  later = c.commit.ensures.later;
  failed = λ is. c.commit.ensures.cause (c.in-Err.is ∙ ap Err (disk_back c.in-Err.cause (sym c.answer_of_fault.ensures ∙ is)));
}

-- behind a checkpoint

pub returns-in-Ok-checkpoint : goal.returns-in-Ok-checkpoint
returns-in-Ok-checkpoint g c = record {
  images = λ choose h base k chooser taken hold.
      shortened_images g.D.Disk g.M.Book.ManifestState.fits c.args.store.now.run c.commit.new.self.run choose h k c.args.disk.now
      c.commit.new.disk c.checkpoint.new.disk hold.staged.within c.commit.ensures.run
      (c.commit.ensures.images choose h base k hold) (c.checkpoint.ensures.images choose h base chooser taken
      (c.in-Ok.ensures.done choose h base k hold));
  held = λ choose h base k chooser taken hold.
      let whole = all_in k (length h) hold.staged.within (sym (c.staged.ensures choose h base k hold.old hold.staged)
      ∙ c.if-staged.false) in
      shortened_held g.D.Disk g.M.Book.ManifestState.fits g.M.StoreMemory.holds choose h base k c.checkpoint.new.self c.checkpoint.new.disk
      whole
      (c.in-Ok-checkpoint.ensures.done choose h base chooser taken (c.in-Ok.ensures.done choose h base k hold));
  short = λ choose h base k hold. short_told c.wants_checkpoint.result _ c.checkpoint.new.self.committer c.wants_checkpoint.ensures;
  long = λ is. c.wants_checkpoint.ensures.0 is;
  cause = tt;
  undamaged = tt;
  over = c.in-Ok-checkpoint.ensures.over;
  measured = λ measured. c.in-Ok-checkpoint.ensures.measured;
  closed = tt;
  placed = tt;
  run = c.checkpoint.ensures.run ∙ c.commit.ensures.run;
  memory = c.checkpoint.ensures.kept ∙ c.commit.ensures.memory;
  told = anyhow_through (g.D.Disk.seen c.args.disk.now) (g.D.Disk.seen c.commit.new.disk) (g.D.Disk.seen c.checkpoint.new.disk)
      c.commit.ensures.told c.checkpoint.ensures.told;
  later = omega (arith, c.commit.ensures.later, c.checkpoint.ensures.later);
  failed = tt;
}

-- where there was no room

pub returns-in-Err-NoMemory : goal.returns-in-Err-NoMemory
returns-in-Err-NoMemory g c = record {
  images = λ choose h base k chooser taken hold.
      shortened_images g.D.Disk g.M.Book.ManifestState.fits c.args.store.now.run c.commit.new.self.run choose h k c.args.disk.now
      c.commit.new.disk c.checkpoint.new.disk hold.staged.within c.commit.ensures.run
      (c.commit.ensures.images choose h base k hold) (c.checkpoint.ensures.images choose h base chooser taken
      (c.in-Ok.ensures.done choose h base k hold));
  held = λ choose h base k chooser taken hold.
      let whole = all_in k (length h) hold.staged.within (sym (c.staged.ensures choose h base k hold.old hold.staged)
      ∙ c.if-staged.false) in
      let none : IsErrOf c.checkpoint.result faults.NoMemory =
      subst (λ (r : Result Unit CheckpointFault). IsErrOf r faults.NoMemory)
      (sym (c.in-Err-NoMemory.is ∙ ap Err c.in-Err-NoMemory.field-0-is)) refl in
      shortened_held g.D.Disk g.M.Book.ManifestState.fits g.M.StoreMemory.holds choose h base k c.checkpoint.new.self c.checkpoint.new.disk
      whole
      (c.checkpoint.ensures.held_still none choose h base chooser taken (c.in-Ok.ensures.done choose h base k hold));
  short = λ choose h base k hold. short_told c.wants_checkpoint-in-Err-NoMemory.result _ c.checkpoint.new.self.committer
      c.wants_checkpoint-in-Err-NoMemory.ensures;
  long = λ is. c.wants_checkpoint-in-Err-NoMemory.ensures.0 is;
  cause = tt;
  undamaged = tt;
  over = c.checkpoint.ensures.over_still (c.in-Err-NoMemory.is ∙ ap Err c.in-Err-NoMemory.field-0-is);
  measured = λ measured.
      c.checkpoint.ensures.measured_still (c.in-Err-NoMemory.is
      ∙ ap Err c.in-Err-NoMemory.field-0-is) (c.in-Ok.ensures.measured (λ idle. measured));
  closed = tt;
  placed = tt;
  run = c.checkpoint.ensures.run ∙ c.commit.ensures.run;
  memory = c.checkpoint.ensures.kept ∙ c.commit.ensures.memory;
  told = anyhow_through (g.D.Disk.seen c.args.disk.now) (g.D.Disk.seen c.commit.new.disk) (g.D.Disk.seen c.checkpoint.new.disk)
      c.commit.ensures.told c.checkpoint.ensures.told;
  later = omega (arith, c.commit.ensures.later, c.checkpoint.ensures.later);
  failed = tt;
}

-- where the disk failed

pub returns-in-Err-Disk : goal.returns-in-Err-Disk
returns-in-Err-Disk g c = record {
  images = λ choose h base k chooser taken hold.
      shortened_images g.D.Disk g.M.Book.ManifestState.fits c.args.store.now.run c.commit.new.self.run choose h k c.args.disk.now
      c.commit.new.disk c.checkpoint.new.disk hold.staged.within c.commit.ensures.run
      (c.commit.ensures.images choose h base k hold) (c.checkpoint.ensures.images choose h base chooser taken
      (c.in-Ok.ensures.done choose h base k hold));
  held = tt;
  short = tt;
  long = tt;
  cause = (commits.Disk, refl);
  undamaged = λ choose h base k hold. refl;
  over = tt;
  measured = λ measured. tt;
  closed = by_committer c.checkpoint.new.self (c.checkpoint.ensures.closed (c.in-Err-Disk.is ∙ ap Err c.in-Err-Disk.field-0-is));
  placed = λ file at is. absurd (not_damaged file at is);
  run = c.checkpoint.ensures.run ∙ c.commit.ensures.run;
  memory = c.checkpoint.ensures.kept ∙ c.commit.ensures.memory;
  told = anyhow_through (g.D.Disk.seen c.args.disk.now) (g.D.Disk.seen c.commit.new.disk) (g.D.Disk.seen c.checkpoint.new.disk)
      c.commit.ensures.told c.checkpoint.ensures.told;
  later = omega (arith, c.commit.ensures.later, c.checkpoint.ensures.later);
  failed = λ is.
      rose_later (g.D.Disk.faults c.args.disk.now) (g.D.Disk.faults c.commit.new.disk) (g.D.Disk.faults c.checkpoint.new.disk)
      c.commit.ensures.later
      (c.checkpoint.ensures.cause (c.in-Err-Disk.is ∙ ap Err c.in-Err-Disk.field-0-is));
}

pub commit-requires : goal.commit-requires
commit-requires g c = c.requires.over

pub checkpoint-requires-clause-over : goal.checkpoint-requires-clause-over
checkpoint-requires-clause-over g c = c.in-Ok.ensures.over

pub checkpoint-requires-clause-idle : goal.checkpoint-requires-clause-idle
checkpoint-requires-clause-idle g c = c.in-Ok.ensures.idle
