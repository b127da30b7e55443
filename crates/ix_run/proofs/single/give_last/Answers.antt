use Rattle.std.proofs.Common.{rules, ap, ◌∙◌, arith}
use Rattle.std.specs.Prelude.{Err}
use Rattle.ix_disk.proofs.Runs.{rose_later}
use Rattle.ix_commit.specs.declared.fault.CommitFault.{CommitFault}
use Rattle.ix_commit.specs.declared.fault.CommitFault.TheVariants as commits
use Rattle.ix_commit.proofs.Reading.{anyhow_through}
use Rattle.std.proofs.lemmas.Int.{to_z-of_z}
use Rattle.std.proofs.lemmas.Result.{err_from_is_err_and}
use mir.Val.{SFits}
use Rattle.std.specs.Int.{w64}
use Rattle.ix_run.proofs.Faults.{not_ok, commit_or_refused, cause_is, cause_back}
use Rattle.ix_run.proofs.Given.{kept_last, stood_last}
use Rattle.ix_run.proofs.single.give_last.Goals as goal

pub returns-in-Ok : goal.returns-in-Ok
returns-in-Ok g c = record {
  kept = λ choose h base k chooser taken hold.
      let fits : SFits w64 c.args.moment = search rules in
      let one = simp to_z-of_z at (c.in_ok-answer.ensures.given choose h base k chooser taken hold) in
      kept_last g.D.Disk _ g.M.StoreMemory.holds choose h base k _ c.args.store.now c.give.new.store c.commit_all.new.store c.args.disk.now
      c.give.new.disk c.commit_all.new.disk c.in_ok-answer.answer hold one
      (c.in-Ok.ensures.done choose _ base one.gone.count one.gone.hold) c.commit_all.ensures.run
      (c.commit_all.ensures.stood choose _ base one.gone.count one.gone.hold);
  fault = tt;
  over = c.in-Ok.ensures.over;
  run = c.commit_all.ensures.run ∙ c.give.ensures.run;
  rest = λ measured. c.in-Ok.ensures.rest (c.in_ok-answer.ensures.measured measured);
  unchanged = tt;
  undamaged = λ file at is. absurd (not_ok is);
  placed = λ file at is. absurd (not_ok is);
  told = anyhow_through (g.D.Disk.seen c.args.disk.now) (g.D.Disk.seen c.give.new.disk) (g.D.Disk.seen c.commit_all.new.disk)
      c.give.ensures.told c.commit_all.ensures.told;
  later = omega (arith, c.give.ensures.later, c.commit_all.ensures.later);
  cause = tt;
}

pub returns-in-Err : goal.returns-in-Err
returns-in-Err g c = record {
  kept = tt;
  fault = λ choose h base k chooser taken hold.
      let fits : SFits w64 c.args.moment = search rules in
      let one = simp to_z-of_z at (c.in_ok-answer.ensures.given choose h base k chooser taken hold) in
      stood_last g.D.Disk _ g.M.StoreMemory.holds choose h base k _ c.args.store.now c.give.new.store c.args.disk.now c.give.new.disk
      c.commit_all.new.disk c.in_ok-answer.answer one
      (c.commit_all.ensures.stood choose _ base one.gone.count one.gone.hold);
  over = tt;
  run = c.commit_all.ensures.run ∙ c.give.ensures.run;
  rest = λ measured. tt;
  unchanged = λ refusal is. absurd (commit_or_refused is);
  undamaged = λ file at is choose h base k chooser taken hold.
      let fits : SFits w64 c.args.moment = search rules in
      let one = simp to_z-of_z at (c.in_ok-answer.ensures.given choose h base k chooser taken hold) in
      let cause = cause_back c.in-Err.fault (commits.Damaged file at) is in
      c.in-Err.ensures.undamaged file at (ap (λ (f : CommitFault). Err f) cause) choose _ base one.gone.count one.gone.hold;
  placed = λ file at is. c.in-Err.ensures.placed file at
      (ap (λ (f : CommitFault). Err f) (cause_back c.in-Err.fault (commits.Damaged file at) is));
  told = anyhow_through (g.D.Disk.seen c.args.disk.now) (g.D.Disk.seen c.give.new.disk) (g.D.Disk.seen c.commit_all.new.disk)
      c.give.ensures.told c.commit_all.ensures.told;
  later = omega (arith, c.give.ensures.later, c.commit_all.ensures.later);
  cause = λ is.
      rose_later (g.D.Disk.faults c.args.disk.now) (g.D.Disk.faults c.give.new.disk) (g.D.Disk.faults c.commit_all.new.disk)
      c.give.ensures.later
      (c.in-Err.ensures.cause (cause_is c.in-Err.fault commits.Disk is));
}

pub commit_all-requires : goal.commit_all-requires
commit_all-requires g c = c.in_ok-answer.ensures.over

pub returns-in_err-answer : goal.returns-in_err-answer
returns-in_err-answer g c =
    let p = err_from_is_err_and c.from_residual.result c.from_residual.ensures.1 in
    rw (p.1, p.2) (record {
      kept = tt;
      fault = λ choose h base k chooser taken hold.
          let fits : SFits w64 c.args.moment = search rules in
          simp to_z-of_z at (c.in_err-answer.ensures.fault choose h base k chooser taken hold);
      over = tt;
      run = c.give.ensures.run;
      rest = λ measured. tt;
      unchanged = c.in_err-answer.ensures.unchanged;
      undamaged = c.in_err-answer.ensures.undamaged;
      placed = c.in_err-answer.ensures.placed;
      told = c.give.ensures.told;
      later = c.give.ensures.later;
      cause = c.in_err-answer.ensures.cause;
    })
