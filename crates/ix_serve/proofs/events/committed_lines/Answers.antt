use Rattle.std.proofs.Common.{length, ◌∙◌, ap, inl, Err, arith}
use Rattle.ix_disk.proofs.Runs.{rose_later}
use Rattle.ix_commit.specs.declared.fault.CommitFault.{CommitFault}
use Rattle.ix_serve.specs.Prefixes.{StandsIn}
use Rattle.ix_serve.proofs.Answering.{if_ok, if_err, on_ok_always}
use Rattle.ix_serve.proofs.Standing.{committing, standing_on, tells_on}
use Rattle.ix_serve.proofs.Closing.{by_committer}
use Rattle.ix_serve.proofs.events.committed_lines.Goals as goal

pub returns-in-Ok : goal.returns-in-Ok
returns-in-Ok g c = record {
  reply = if_ok c.export_lines.result (λ exported says e chooser taken hold.
      says e chooser taken (c.in-Ok.ensures.done e.choose e.history e.base e.kept hold)) c.export_lines.ensures.reply;
  held = λ choose h base k hold. c.export_lines.ensures.held choose h base (length h) (c.in-Ok.ensures.done choose h base k hold);
  undamaged = if_err c.export_lines.result (λ cause says choose h base k chooser taken hold.
      says choose h base chooser taken (c.in-Ok.ensures.done choose h base k hold)) c.export_lines.ensures.undamaged;
  measured = λ measured. on_ok_always c.export_lines.result (c.export_lines.ensures.measured (c.in-Ok.ensures.measured (λ idle. measured)));
  closed = c.export_lines.ensures.closed;
  placed = c.export_lines.ensures.placed;
  run = c.export_lines.ensures.run ∙ c.commit.ensures.run;
  memory = c.export_lines.ensures.memory ∙ c.commit.ensures.memory;
  told = λ told. let mid = tells_on g.D.Disk _ c.args.disk.now c.commit.new.disk c.commit.ensures.told told in
      (mid.0, c.export_lines.ensures.same ∙ mid.1);
  over = on_ok_always c.export_lines.result (c.export_lines.ensures.over c.in-Ok.ensures.over);
  later = omega (arith, c.commit.ensures.later, c.export_lines.ensures.later);
  failed = if_err c.export_lines.result (λ cause so is.
      rose_later (g.D.Disk.faults c.args.disk.now) (g.D.Disk.faults c.commit.new.disk) (g.D.Disk.faults c.export_lines.new.disk)
      c.commit.ensures.later (so is)) c.export_lines.ensures.failed;
  images = λ choose h base k hold.
      standing_on g.D.Disk (StandsIn g.M.Book.ManifestState.fits c.args.store.now.run choose h k) c.args.disk.now c.commit.new.disk
      c.export_lines.new.disk
      (committing g.M.Book.ManifestState.fits c.args.store.now.run choose h k hold.staged.within g.D.Disk c.args.disk.now c.commit.new.disk
      (c.commit.ensures.images choose h base k hold))
      c.export_lines.ensures.images;
}

pub returns-in-Err : goal.returns-in-Err
returns-in-Err g c = record {
  reply = tt;
  held = λ choose h base k hold. tt;
  undamaged = λ choose h base k chooser taken hold file at is image seen.
      c.in-Err.ensures.undamaged file at (ap (λ (f : CommitFault). Err f) is) choose h base k hold image seen;
  measured = λ measured. tt;
  closed = by_committer c.commit.new.self c.in-Err.ensures.closed;
  placed = λ file at is image seen. inl ((c.in-Err.ensures.damaged file at (ap (λ (f : CommitFault). Err f) is)).1 image seen);
  run = c.commit.ensures.run;
  memory = c.commit.ensures.memory;
  told = tells_on g.D.Disk _ c.args.disk.now c.commit.new.disk c.commit.ensures.told;
  over = tt;
  later = c.commit.ensures.later;
  failed = λ is. c.commit.ensures.cause (c.in-Err.is ∙ ap Err is);
  images = λ choose h base k hold.
      committing g.M.Book.ManifestState.fits c.args.store.now.run choose h k hold.staged.within g.D.Disk c.args.disk.now c.commit.new.disk
      (c.commit.ensures.images choose h base k hold);
}

pub commit-requires : goal.commit-requires
commit-requires g c = c.requires.over
