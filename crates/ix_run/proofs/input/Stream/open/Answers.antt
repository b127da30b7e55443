use Rattle.std.proofs.Common.{◌∙◌, ◌∷◌, [], refl, sym, arith}
use Rattle.ix_disk.proofs.Runs.{rose_later}
use Rattle.ix_commit.proofs.Reading.{anyhow_through}
use Rattle.ix_model.specs.Judged.{is_begun}
use Rattle.ix_model.specs.Step.{state_after}
use Rattle.ix_run.specs.Giving.{given_all}
use Rattle.ix_run.specs.Storing.{tilde, end_order}
use Rattle.ix_run.proofs.Faults.{if_err}
use Rattle.ix_run.proofs.Stored.{all_taken, began, begun_again, not_ended}
use Rattle.ix_run.proofs.input.Stream.open.Goals as goal

pub returns-then-not-has_channel : goal.returns-then-not-has_channel
returns-then-not-has_channel g c = record {
  given = λ choose h base k chooser taken hold.
      began g.D.Disk g.M.Book.ManifestState.fits c.args.store.now.run g.M.StoreMemory.holds choose h base k c.begin.new.store
      c.args.disk.now c.begin.new.disk c.begin.result (is_begun (state_after choose h) tilde) c.args.origin c.args.self.moment
      (sym (c.has_channel.ensures choose h base k hold.old hold.staged)
      ∙ c.if-not-has_channel.true) (c.begin.ensures.given choose h base k chooser taken hold);
  over = c.begin.ensures.over;
  measured = c.begin.ensures.measured;
  undamaged = c.begin.ensures.undamaged;
  placed = c.begin.ensures.placed;
  told = c.begin.ensures.told;
  later = c.begin.ensures.later;
  cause = c.begin.ensures.cause;
}

pub returns-in-Ok : goal.returns-in-Ok
returns-in-Ok g c = record {
  given = λ choose h base k chooser taken hold.
      let one = c.in-Ok.ensures.given choose h base k chooser taken hold in
      begun_again g.D.Disk g.M.Book.ManifestState.fits c.args.store.now.run g.M.StoreMemory.holds choose h base k c.end.new.store
      c.begin-in-Ok.new.store c.args.disk.now c.end.new.disk c.begin-in-Ok.new.disk c.begin-in-Ok.result
      (is_begun (state_after choose h) tilde) c.args.origin c.args.self.moment
      (sym (c.has_channel.ensures choose h base k hold.old hold.staged) ∙ c.if-not-has_channel.false) one
      (c.begin-in-Ok.ensures.given choose (given_all choose h (end_order c.args.self.moment ∷ [])) base one.count chooser
      (all_taken g.M.StoreMemory.takes g.met.M.StoreMemory.ticks_are_taken choose h (end_order c.args.self.moment
      ∷ []) taken (c.requires.ends, tt)) one.hold);
  over = c.begin-in-Ok.ensures.over;
  measured = λ uncut measured. c.begin-in-Ok.ensures.measured uncut (c.in-Ok.ensures.measured refl measured);
  undamaged = λ file at is choose h base k chooser taken hold.
      let one = c.in-Ok.ensures.given choose h base k chooser taken hold in
      c.begin-in-Ok.ensures.undamaged file at is choose (given_all choose h (end_order c.args.self.moment ∷ [])) base one.count chooser
      (all_taken g.M.StoreMemory.takes g.met.M.StoreMemory.ticks_are_taken choose h (end_order c.args.self.moment
      ∷ []) taken (c.requires.ends, tt)) one.hold;
  placed = c.begin-in-Ok.ensures.placed;
  told = anyhow_through (g.D.Disk.seen c.args.disk.now) (g.D.Disk.seen c.end.new.disk) (g.D.Disk.seen c.begin-in-Ok.new.disk)
      c.end.ensures.told c.begin-in-Ok.ensures.told;
  later = omega (arith, c.end.ensures.later, c.begin-in-Ok.ensures.later);
  cause = if_err c.begin-in-Ok.result (λ fault so is. rose_later (g.D.Disk.faults c.args.disk.now) (g.D.Disk.faults c.end.new.disk)
      (g.D.Disk.faults c.begin-in-Ok.new.disk) c.end.ensures.later (so is))
      c.begin-in-Ok.ensures.cause;
}

pub returns-in-Err : goal.returns-in-Err
returns-in-Err g c = record {
  given = λ choose h base k chooser taken hold.
      not_ended g.D.Disk g.M.Book.ManifestState.fits c.args.store.now.run g.M.StoreMemory.holds choose h base k c.end.new.store
      c.args.disk.now c.end.new.disk c.in-Err.fault (is_begun (state_after choose h) tilde) c.args.origin c.args.self.moment
      (sym (c.has_channel.ensures choose h base k hold.old hold.staged)
      ∙ c.if-not-has_channel.false) (c.in-Err.ensures.given choose h base k chooser taken hold);
  over = c.in-Err.ensures.over;
  measured = c.in-Err.ensures.measured;
  undamaged = c.in-Err.ensures.undamaged;
  placed = c.in-Err.ensures.placed;
  told = c.end.ensures.told;
  later = c.end.ensures.later;
  cause = c.in-Err.ensures.cause;
}

pub begin-requires-clause-over : goal.begin-requires-clause-over
begin-requires-clause-over g c = c.requires.over

pub end-requires-clause-over : goal.end-requires-clause-over
end-requires-clause-over g c = c.requires.over

pub begin-requires-clause-takes : goal.begin-requires-clause-takes
begin-requires-clause-takes g c = c.requires.begins

pub end-requires-clause-takes : goal.end-requires-clause-takes
end-requires-clause-takes g c = c.requires.ends
