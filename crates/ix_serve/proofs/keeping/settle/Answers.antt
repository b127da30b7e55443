use Rattle.std.proofs.Common.{◌∙◌, refl, sym, ap, subst, inl, inr, Err}
use Rattle.ix_commit.specs.declared.fault.CommitFault.{CommitFault}
use Rattle.ix_serve.specs.Serving.{IsOpen}
use Rattle.ix_serve.specs.declared.served.ServeFault.{ServeFault}
use Rattle.ix_serve.specs.declared.served.ServeFault.TheVariants as fault
use Rattle.ix_serve.proofs.Answering.{open_undamaged, damaged_back, disk_back, err_back, not_open}
use Rattle.ix_serve.proofs.Standing.{committing, tells_on}
use Rattle.ix_serve.proofs.Closing.{open_still, by_committer, open_placed}
use Rattle.ix_serve.proofs.keeping.settle.Goals as goal

pub returns-in-Ok : goal.returns-in-Ok
returns-in-Ok g c = record {
  done = λ choose h base k hold stays. c.in-Ok.ensures.done choose h base k hold;
  images = λ choose h base k hold.
      committing g.M.Book.ManifestState.fits c.args.store.now.run choose h k hold.staged.within g.D.Disk c.args.disk.now c.commit.new.disk
      (c.commit.ensures.images choose h base k hold);
  came = inl refl;
  measured = λ measured stays. c.in-Ok.ensures.measured (λ idle. measured);
  closed = λ down. absurd (open_still c.args.came c.requires.open down);
  placed = open_placed g.D.Disk c.commit.new.disk c.args.came c.requires.open;
  run = c.commit.ensures.run;
  memory = c.commit.ensures.memory;
  told = tells_on g.D.Disk _ c.args.disk.now c.commit.new.disk c.commit.ensures.told;
  over = λ stays. c.in-Ok.ensures.over;
  later = c.commit.ensures.later;
  failed = λ is. absurd (subst IsOpen is c.requires.open);
  undamaged = λ choose h base k hold. open_undamaged g.D.Disk c.commit.new.disk c.args.came c.requires.open;
}

pub returns-in-Err : goal.returns-in-Err
returns-in-Err g c = record {
  done = λ choose h base k hold stays. absurd (not_open c.answer_of_fault.result c.in-Err.cause c.answer_of_fault.ensures stays);
  images = λ choose h base k hold.
      committing g.M.Book.ManifestState.fits c.args.store.now.run choose h k hold.staged.within g.D.Disk c.args.disk.now c.commit.new.disk
      (c.commit.ensures.images choose h base k hold);
  came = inr (c.in-Err.cause, ap (λ (f : ServeFault). Err f) c.answer_of_fault.ensures);
  measured = λ measured stays. absurd (not_open c.answer_of_fault.result c.in-Err.cause c.answer_of_fault.ensures stays);
  closed = λ down. by_committer c.commit.new.self c.in-Err.ensures.closed;
  placed = λ file at is image seen. (c.in-Err.ensures.damaged file at
      (ap (λ (f : CommitFault). Err f) (damaged_back c.in-Err.cause file at (sym c.answer_of_fault.ensures
      ∙ err_back c.answer_of_fault.result (fault.Damaged file at) is)))).1 image seen;
  run = c.commit.ensures.run;
  memory = c.commit.ensures.memory;
  told = tells_on g.D.Disk _ c.args.disk.now c.commit.new.disk c.commit.ensures.told;
  over = λ stays. absurd (not_open c.answer_of_fault.result c.in-Err.cause c.answer_of_fault.ensures stays);
  later = c.commit.ensures.later;
  failed = λ is.
      c.commit.ensures.cause (c.in-Err.is ∙ ap Err (disk_back c.in-Err.cause (sym c.answer_of_fault.ensures
      ∙ err_back c.answer_of_fault.result fault.Disk is)));
  undamaged = λ choose h base k hold file at is image seen.
      let same = err_back c.answer_of_fault.result (fault.Damaged file at) is in
      let e = damaged_back c.in-Err.cause file at (sym c.answer_of_fault.ensures ∙ same) in
      c.in-Err.ensures.undamaged file at (ap (λ (f : CommitFault). Err f) e) choose h base k hold image seen;
}

pub commit-requires : goal.commit-requires
commit-requires g c = c.requires.over
