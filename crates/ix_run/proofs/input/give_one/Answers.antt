use Rattle.std.proofs.Common.{rules, ap}
use Rattle.std.specs.Prelude.{Err}
use Rattle.ix_commit.specs.declared.fault.CommitFault.TheVariants as commits
use Rattle.ix_run.specs.declared.giving.GiveFault.{GiveFault}
use Rattle.ix_run.specs.declared.giving.GiveFault.TheVariants as faults
use Rattle.std.proofs.lemmas.Int.{to_z-of_z}
use mir.Val.{SFits}
use Rattle.std.specs.Int.{w64}
use Rattle.ix_run.proofs.Faults.{given_ok, fault_is, uncut_refused}
use Rattle.ix_run.proofs.Rested.{measured_same}
use Rattle.ix_run.proofs.Stored.{gave_one, gave_none}
use Rattle.ix_run.proofs.input.give_one.Goals as goal

pub returns-in-Ok : goal.returns-in-Ok
returns-in-Ok g c = record {
  given = λ choose h base k chooser taken hold.
      let fits : SFits w64 c.args.moment = search rules in
      gave_one g.D.Disk _ g.M.StoreMemory.holds choose h base k (record { command = c.args.command; moment = c.args.moment })
      c.args.store.now c.give.new.store c.args.disk.now c.give.new.disk c.in-Ok.field-0 hold
      (simp to_z-of_z at (c.in-Ok.ensures.given choose h base k chooser taken hold));
  over = λ uncut. c.in-Ok.ensures.over;
  measured = λ uncut measured. c.in-Ok.ensures.measured measured;
  undamaged = λ file at is. absurd (given_ok is);
  placed = λ file at is. absurd (given_ok is);
  told = c.give.ensures.told;
  later = c.give.ensures.later;
  cause = tt;
}

pub returns-in-Err : goal.returns-in-Err
returns-in-Err g c = record {
  given = λ choose h base k chooser taken hold.
      let fits : SFits w64 c.args.moment = search rules in
      gave_none g.D.Disk _ g.M.StoreMemory.holds choose h base k (record { command = c.args.command; moment = c.args.moment })
      c.args.store.now c.give.new.store c.args.disk.now c.give.new.disk c.in-Err.fault hold
      (simp to_z-of_z at (c.in-Err.ensures.fault choose h base k chooser taken hold));
  over = λ uncut.
      let refused = uncut_refused c.in-Err.fault uncut in
      c.in-Err.ensures.still refused.0 refused.1;
  measured = λ uncut measured.
      let refused = uncut_refused c.in-Err.fault uncut in
      let same = c.in-Err.ensures.unchanged refused.0 refused.1 in
      rw same.1 (measured_same g.D.Disk c.args.store.now.committer c.give.new.store.committer c.args.disk.now same.0.committer.logs.log
      same.0.committer.bytes measured);
  undamaged = λ file at is.
      c.in-Err.ensures.undamaged file at (ap (λ (f : GiveFault). Err f)
      (fault_is c.in-Err.fault (faults.Commit (commits.Damaged file at)) is));
  placed = λ file at is.
      c.in-Err.ensures.placed file at (ap (λ (f : GiveFault). Err f)
      (fault_is c.in-Err.fault (faults.Commit (commits.Damaged file at)) is));
  told = c.give.ensures.told;
  later = c.give.ensures.later;
  cause = c.in-Err.ensures.cause;
}
