use Rattle.std.proofs.Common.{◌∙◌, [], refl, sym, arith}
use Rattle.ix_commit.specs.declared.fault.CommitFault.TheVariants as commits
use Rattle.ix_commit.proofs.Reading.{anyhow_same}
use Rattle.ix_model.specs.declared.answers.Refusal.TheVariants as refusals
use Rattle.ix_run.specs.Storing.{begin_order}
use Rattle.ix_run.proofs.Faults.{refused_or_commit, refused_uncut}
use Rattle.ix_run.proofs.Stored.{halted_none}
use Rattle.ix_run.proofs.input.Stream.begin.Goals as goal

pub returns-in-Err : goal.returns-in-Err
returns-in-Err g c = record {
  given = λ choose h base k chooser taken hold.
      rw c.in-Err.ensures.refused (halted_none g.D.Disk g.M.Book.ManifestState.fits c.args.store.now.run g.M.StoreMemory.holds choose h base
      k c.args.store.now c.args.disk.now (begin_order c.args.origin c.args.self.moment) [] refl hold);
  over = λ uncut. c.requires.over;
  measured = λ uncut measured. measured;
  undamaged = λ file at is. absurd (refused_uncut c.in-Err.fault refusals.NoMemory (commits.Damaged file at) c.in-Err.ensures.refused is);
  placed = λ file at is. absurd (refused_uncut c.in-Err.fault refusals.NoMemory (commits.Damaged file at) c.in-Err.ensures.refused is);
  told = anyhow_same (g.D.Disk.seen c.args.disk.now) (g.D.Disk.seen c.args.disk.now) refl;
  later = omega arith;
  cause = λ is. absurd (refused_or_commit (sym c.in-Err.ensures.refused ∙ is));
}

pub returns-clause-over : goal.returns-clause-over
returns-clause-over g c = c.give_one.ensures.over

pub returns-clause-measured : goal.returns-clause-measured
returns-clause-measured g c = c.give_one.ensures.measured

pub returns-clause-undamaged : goal.returns-clause-undamaged
returns-clause-undamaged g c = c.give_one.ensures.undamaged

pub returns-clause-placed : goal.returns-clause-placed
returns-clause-placed g c = c.give_one.ensures.placed

pub returns-clause-told : goal.returns-clause-told
returns-clause-told g c = c.give_one.ensures.told

pub returns-clause-later : goal.returns-clause-later
returns-clause-later g c = c.give_one.ensures.later

pub returns-clause-cause : goal.returns-clause-cause
returns-clause-cause g c = c.give_one.ensures.cause
