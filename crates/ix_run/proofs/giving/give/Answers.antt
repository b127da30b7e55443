use Rattle.std.proofs.Common.{rules, refl, ap, ◌∙◌, arith}
use Rattle.std.specs.Prelude.{Err}
use Rattle.ix_commit.specs.declared.fault.CommitFault.{CommitFault}
use Rattle.ix_commit.specs.declared.fault.CommitFault.TheVariants as commits
use Rattle.ix_commit.proofs.Beginning.{over_same}
use Rattle.ix_commit.proofs.Reading.{anyhow_same}
use Rattle.std.proofs.lemmas.Int.{to_z-of_z}
use mir.Val.{SFits}
use Rattle.std.specs.Int.{w64}
use Rattle.ix_store.proofs.Joining.{more_taken, staged_same}
use Rattle.ix_store.proofs.Lawful.{held_then}
use Rattle.ix_run.proofs.Faults.{not_ok, refused_or_commit, commit_or_refused, not_commit, cause_is, cause_back}
use Rattle.ix_run.proofs.Gone.{gone_none, given, given_stood}
use Rattle.ix_run.proofs.Rested.{measured_same}
use Rattle.ix_run.proofs.giving.give.Goals as goal

pub returns-in-Err : goal.returns-in-Err
returns-in-Err g c = record {
  given = tt;
  fault = λ choose h base k chooser taken hold.
      let fits : SFits w64 c.args.moment = search rules in
      let staged = staged_same _ g.M.StoreMemory.holds choose h base k c.args.store.now c.accept.new.self hold.old c.in-Err.ensures.err
      hold.staged in
      let now = held_then g.D.Disk _ g.M.StoreMemory.holds choose h h base k c.args.store.now c.accept.new.self c.args.disk.now hold
      c.accept.ensures.logs staged in
      let refused = simp to_z-of_z at (c.in-Err.ensures.refused choose h base k hold.old chooser taken hold.staged) in (
        refused,
        gone_none g.D.Disk _ c.args.store.now.run g.M.StoreMemory.holds choose h base k c.accept.new.self c.args.disk.now
            c.in-Err.ensures.err.run now,
      );
  over = tt;
  still = λ refusal is. over_same g.D.Disk g.M.Book.ManifestState.fits c.args.store.now.committer c.accept.new.self.committer
      c.args.disk.now
      c.accept.ensures.logs c.requires.over;
  unchanged = λ refusal is. (c.in-Err.ensures.err, refl);
  run = c.in-Err.ensures.err.run;
  measured = λ measured. tt;
  undamaged = λ file at is. absurd (not_commit is);
  placed = λ file at is. absurd (not_commit is);
  told = anyhow_same (g.D.Disk.seen c.args.disk.now) (g.D.Disk.seen c.args.disk.now) refl;
  later = omega arith;
  cause = λ is. absurd (refused_or_commit is);
}

pub returns-in-Ok-commit_due : goal.returns-in-Ok-commit_due
returns-in-Ok-commit_due g c = record {
  given = λ choose h base k chooser taken hold.
      let fits : SFits w64 c.args.moment = search rules in
      let is = simp to_z-of_z at (c.in-Ok.ensures.accepted choose h base k hold.old chooser taken hold.staged) in
      given g.D.Disk _ g.M.StoreMemory.holds choose h base k (record { command = c.args.command; moment = c.args.moment }) c.args.store.now
      c.accept.new.self c.commit_due.new.store c.args.disk.now c.commit_due.new.disk c.in-Ok.answer c.accept.ensures.run hold
      c.accept.ensures.logs is
      (c.in-Ok-commit_due.ensures.gone choose _ base k chooser
      (more_taken g.M.StoreMemory.takes g.met.M.StoreMemory.ticks_are_taken choose h
      (record { command = c.args.command; moment = c.args.moment }) taken c.requires.takes));
  fault = tt;
  over = c.in-Ok-commit_due.ensures.over;
  still = tt;
  unchanged = tt;
  run = c.commit_due.ensures.run ∙ c.accept.ensures.run;
  measured = λ measured.
      c.in-Ok-commit_due.ensures.measured (measured_same g.D.Disk c.args.store.now.committer c.accept.new.self.committer c.args.disk.now
      c.accept.ensures.logs.log c.accept.ensures.bytes measured);
  undamaged = λ file at is. absurd (not_ok is);
  placed = λ file at is. absurd (not_ok is);
  told = c.commit_due.ensures.told;
  later = c.commit_due.ensures.later;
  cause = tt;
}

pub returns-in-Err-commit_due : goal.returns-in-Err-commit_due
returns-in-Err-commit_due g c = record {
  given = tt;
  fault = λ choose h base k chooser taken hold.
      let fits : SFits w64 c.args.moment = search rules in
      let is = simp to_z-of_z at (c.in-Ok.ensures.accepted choose h base k hold.old chooser taken hold.staged) in
      given_stood g.D.Disk _ g.M.StoreMemory.holds choose h base k (record { command = c.args.command; moment = c.args.moment })
      c.args.store.now c.accept.new.self c.args.disk.now c.commit_due.new.disk c.in-Ok.answer c.accept.ensures.run hold
      c.accept.ensures.logs is
      (c.commit_due.ensures.stood choose _ base k chooser
      (more_taken g.M.StoreMemory.takes g.met.M.StoreMemory.ticks_are_taken choose h
      (record { command = c.args.command; moment = c.args.moment }) taken c.requires.takes));
  over = tt;
  still = λ refusal is. absurd (commit_or_refused is);
  unchanged = λ refusal is. absurd (commit_or_refused is);
  run = c.commit_due.ensures.run ∙ c.accept.ensures.run;
  measured = λ measured. tt;
  undamaged = λ file at is choose h base k chooser taken hold.
      let fits : SFits w64 c.args.moment = search rules in
      let accepted = simp to_z-of_z at (c.in-Ok.ensures.accepted choose h base k hold.old chooser taken hold.staged) in
      let cause = cause_back c.in-Err-commit_due.fault (commits.Damaged file at) is in
      c.in-Err-commit_due.ensures.undamaged file at (ap (λ (f : CommitFault). Err f) cause) choose _ base k
      (held_then g.D.Disk _ g.M.StoreMemory.holds choose h _ base k c.args.store.now c.accept.new.self c.args.disk.now hold
      c.accept.ensures.logs accepted.staged);
  placed = λ file at is. c.in-Err-commit_due.ensures.placed file at
      (ap (λ (f : CommitFault). Err f) (cause_back c.in-Err-commit_due.fault (commits.Damaged file at) is));
  told = c.commit_due.ensures.told;
  later = c.commit_due.ensures.later;
  cause = λ is. c.in-Err-commit_due.ensures.cause (cause_is c.in-Err-commit_due.fault commits.Disk is);
}

pub commit_due-requires : goal.commit_due-requires
commit_due-requires g c = over_same g.D.Disk g.M.Book.ManifestState.fits c.args.store.now.committer c.accept.new.self.committer
    c.args.disk.now
    c.accept.ensures.logs c.requires.over
