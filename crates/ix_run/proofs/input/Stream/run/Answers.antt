use Rattle.std.proofs.Common.{◌≡◌, ◌∙◌, [], ◌∷◌, ◌++◌, arith, map, refl, sym, ap}
use Rattle.std.specs.Prelude.{Result, Ok, Err}
use Rattle.ix_disk.proofs.Runs.{rose_later}
use Rattle.ix_commit.specs.declared.fault.CommitFault.{CommitFault}
use Rattle.ix_commit.specs.declared.fault.CommitFault.TheVariants as commits
use Rattle.ix_commit.proofs.Reading.{anyhow_same, anyhow_through}
use Rattle.ix_model.specs.Judged.{is_begun}
use Rattle.ix_model.specs.declared.answers.Refusal.TheVariants as refusals
use Rattle.ix_model.specs.Step.{state_after}
use Rattle.ix_store.proofs.Booked.{all_more}
use Rattle.ix_run.specs.Giving.{given_all}
use Rattle.ix_run.specs.declared.giving.GiveFault.{GiveFault}
use Rattle.ix_run.specs.declared.giving.GiveFault.TheVariants as faults
use Rattle.ix_run.specs.declared.input.RunFault.{RunFault}
use Rattle.ix_run.specs.declared.input.RunFault.TheVariants as stops
use Rattle.ix_run.specs.Storing.{tilde, opening, block_order, end_order}
use Rattle.ix_run.proofs.Stored.{took_none, all_taken, blocks_taken, opening_taken, gives_on, halted_first, opened, feeds_on, feeds_more}
use Rattle.ix_run.proofs.Filled.{filled_on}
use Rattle.ix_run.proofs.input.Stream.run.Goals as goal

not_ok : {done : Unit} {fault : RunFault} → (let result : Result Unit RunFault = Ok done in result ≡ Err fault) → ⊥
not_ok is = cc

given_back : (a b : GiveFault) → (let result : Result Unit RunFault = Err (stops.Given a) in result ≡ Err (stops.Given b)) → a ≡ b
given_back a b is = cc

not_refused : (cause : CommitFault) → faults.Refused refusals.NoMemory ≡ faults.Commit cause → ⊥
not_refused cause is = cc

-- what is refused is no fault of the disk

not_cut : (fault : GiveFault) (cause : CommitFault) → fault ≡ faults.Refused refusals.NoMemory →
    (let result : Result Unit RunFault = Err (stops.Given fault) in result ≡ Err (stops.Given (faults.Commit cause))) → ⊥
not_cut fault cause refused is = not_refused cause (sym refused ∙ given_back fault (faults.Commit cause) is)

pub returns-in-Err : goal.returns-in-Err
returns-in-Err g c = record {
  read = rw c.in-Err.ensures.refused record {
    pieces = [];
    sizes = tt;
    took = took_none (g.S.Source.left c.args.input.now);
    read = omega arith;
    done = λ choose h base k chooser taken hold.
        halted_first g.D.Disk g.M.Book.ManifestState.fits c.args.store.now.run g.M.StoreMemory.holds choose h base k c.args.store.now
        c.args.disk.now (is_begun (state_after choose h) tilde) c.args.origin c.args.self.moment refl hold;
  };
  over = λ uncut. c.requires.over;
  measured = λ uncut measured. measured;
  undamaged = λ file at is. absurd (not_cut c.in-Err.fault (commits.Damaged file at) c.in-Err.ensures.refused is);
  placed = λ file at is. absurd (not_cut c.in-Err.fault (commits.Damaged file at) c.in-Err.ensures.refused is);
  told = anyhow_same (g.D.Disk.seen c.args.disk.now) (g.D.Disk.seen c.args.disk.now) refl;
  later = omega arith;
  read_later = omega arith;
  cause = λ is. absurd (not_cut c.in-Err.fault commits.Disk c.in-Err.ensures.refused is);
}

pub returns-in-Err-open : goal.returns-in-Err-open
returns-in-Err-open g c = record {
  read = record {
    pieces = [];
    sizes = tt;
    took = took_none (g.S.Source.left c.args.input.now);
    read = omega arith;
    done = λ choose h base k chooser taken hold.
        opened g.D.Disk g.M.Book.ManifestState.fits c.args.store.now.run g.M.StoreMemory.holds choose h
        (opening (is_begun (state_after choose h) tilde) c.args.origin c.args.self.moment) base k c.open.new.store c.args.disk.now
        c.open.new.disk c.in-Err-open.fault
        [] (end_order c.args.self.moment ∷ []) (c.in-Err-open.ensures.given choose h base k chooser taken hold);
  };
  over = c.in-Err-open.ensures.over;
  measured = c.in-Err-open.ensures.measured;
  undamaged = λ file at is.
      let was : c.in-Err-open.fault ≡ faults.Commit (commits.Damaged file at) =
      given_back c.in-Err-open.fault (faults.Commit (commits.Damaged file at)) is in
      c.in-Err-open.ensures.undamaged file at (ap (λ (f : GiveFault). Err f) was);
  placed = λ file at is. c.in-Err-open.ensures.placed file at (ap (λ (f : GiveFault). Err f)
      (given_back c.in-Err-open.fault (faults.Commit (commits.Damaged file at)) is));
  told = c.open.ensures.told;
  later = c.open.ensures.later;
  read_later = omega arith;
  cause = λ is. c.in-Err-open.ensures.cause (given_back c.in-Err-open.fault (faults.Commit commits.Disk) is);
}

pub returns-in-Err-fill : goal.returns-in-Err-fill
returns-in-Err-fill g c = record {
  read = let read = c.in-Err-fill.ensures.read in record {
    pieces = read.pieces;
    sizes = read.sizes;
    took = read.took;
    read = read.read;
    done = λ choose h base k chooser taken hold.
        let a = opening (is_begun (state_after choose h) tilde) c.args.origin c.args.self.moment in
        let one = c.in-Ok-open.ensures.given choose h base k chooser taken hold in
        let all = all_taken g.M.StoreMemory.takes g.met.M.StoreMemory.ticks_are_taken choose h a taken
        (opening_taken g.M.StoreMemory.takes c.args.origin c.args.self.moment c.requires.ends c.requires.begins
        (is_begun (state_after choose h) tilde)) in
        feeds_more g.D.Disk g.M.Book.ManifestState.fits c.args.store.now.run g.M.StoreMemory.holds choose h (a
        ++ map (block_order c.args.self.moment) read.pieces) (end_order c.args.self.moment
        ∷ []) base k c.fill.new.store c.args.disk.now c.fill.new.disk c.in-Err-fill.fault
        (feeds_on g.D.Disk g.M.Book.ManifestState.fits c.args.store.now.run g.M.StoreMemory.holds choose h a
        (map (block_order c.args.self.moment) read.pieces) [] base k c.open.new.store c.fill.new.store c.args.disk.now c.open.new.disk
        c.fill.new.disk one (Err c.in-Err-fill.fault)
        (read.done choose (given_all choose h a) base one.count chooser all one.hold));
  };
  over = c.in-Err-fill.ensures.over;
  measured = λ uncut measured. c.in-Err-fill.ensures.measured uncut (c.in-Ok-open.ensures.measured refl measured);
  undamaged = λ file at is choose h base k chooser taken hold.
      let a = opening (is_begun (state_after choose h) tilde) c.args.origin c.args.self.moment in
      let one = c.in-Ok-open.ensures.given choose h base k chooser taken hold in
      let all = all_taken g.M.StoreMemory.takes g.met.M.StoreMemory.ticks_are_taken choose h a taken
      (opening_taken g.M.StoreMemory.takes c.args.origin c.args.self.moment c.requires.ends c.requires.begins
      (is_begun (state_after choose h) tilde)) in
      c.in-Err-fill.ensures.undamaged file at is choose (given_all choose h a) base one.count chooser all one.hold;
  placed = c.in-Err-fill.ensures.placed;
  told = anyhow_through (g.D.Disk.seen c.args.disk.now) (g.D.Disk.seen c.open.new.disk) (g.D.Disk.seen c.fill.new.disk) c.open.ensures.told
      c.fill.ensures.told;
  later = omega (arith, c.open.ensures.later, c.fill.ensures.later);
  read_later = c.fill.ensures.read_later;
  cause = λ is.
      rose_later (g.D.Disk.faults c.args.disk.now) (g.D.Disk.faults c.open.new.disk) (g.D.Disk.faults c.fill.new.disk) c.open.ensures.later
      (c.in-Err-fill.ensures.cause is);
}

pub returns-in-Ok-end : goal.returns-in-Ok-end
returns-in-Ok-end g c = record {
  read = let read = c.in-Ok-fill.ensures.read in record {
    pieces = read.pieces;
    sizes = read.sizes;
    took = read.took;
    read = read.read;
    done = λ choose h base k chooser taken hold.
        let a = opening (is_begun (state_after choose h) tilde) c.args.origin c.args.self.moment in
        let b = map (block_order c.args.self.moment) read.pieces in
        let open_taken = opening_taken g.M.StoreMemory.takes c.args.origin c.args.self.moment c.requires.ends c.requires.begins
        (is_begun (state_after choose h) tilde) in
        let one = c.in-Ok-open.ensures.given choose h base k chooser taken hold in
        let all = all_taken g.M.StoreMemory.takes g.met.M.StoreMemory.ticks_are_taken choose h a taken open_taken in
        let both = filled_on g.D.Disk g.M.Book.ManifestState.fits c.args.store.now.run g.M.StoreMemory.holds choose h a b base k
        c.open.new.store c.fill.new.store c.args.disk.now c.open.new.disk c.fill.new.disk one
        (read.done choose (given_all choose h a) base one.count chooser all one.hold) in
        let more = all_taken g.M.StoreMemory.takes g.met.M.StoreMemory.ticks_are_taken choose h (a ++ b) taken
        (all_more g.M.StoreMemory.takes a b open_taken (blocks_taken g.M.StoreMemory.takes c.args.self.moment c.requires.adds read.pieces
        read.sizes)) in
        gives_on g.D.Disk g.M.Book.ManifestState.fits c.args.store.now.run g.M.StoreMemory.holds choose h (a
        ++ b) (end_order c.args.self.moment ∷ []) base k c.fill.new.store c.end.new.store c.args.disk.now c.fill.new.disk c.end.new.disk
        both (Ok tt)
        (c.in-Ok-end.ensures.given choose (given_all choose h (a ++ b)) base both.count chooser more both.hold);
  };
  over = λ uncut. c.in-Ok-end.ensures.over refl;
  measured = λ uncut measured. c.in-Ok-end.ensures.measured refl
      (c.in-Ok-fill.ensures.measured refl (c.in-Ok-open.ensures.measured refl measured));
  undamaged = λ file at is. absurd (not_ok is);
  placed = λ file at is. absurd (not_ok is);
  told = anyhow_through (g.D.Disk.seen c.args.disk.now) (g.D.Disk.seen c.fill.new.disk) (g.D.Disk.seen c.end.new.disk)
      (anyhow_through (g.D.Disk.seen c.args.disk.now) (g.D.Disk.seen c.open.new.disk) (g.D.Disk.seen c.fill.new.disk) c.open.ensures.told
      c.fill.ensures.told) c.end.ensures.told;
  later = omega (arith, c.open.ensures.later, c.fill.ensures.later, c.end.ensures.later);
  read_later = c.fill.ensures.read_later;
  cause = λ is. absurd (not_ok is);
}

pub returns : goal.returns
returns g c = record {
  read = let read = c.in-Ok-fill.ensures.read in record {
    pieces = read.pieces;
    sizes = read.sizes;
    took = read.took;
    read = omega (arith, read.read.0);
    done = λ choose h base k chooser taken hold.
        let a = opening (is_begun (state_after choose h) tilde) c.args.origin c.args.self.moment in
        let b = map (block_order c.args.self.moment) read.pieces in
        let open_taken = opening_taken g.M.StoreMemory.takes c.args.origin c.args.self.moment c.requires.ends c.requires.begins
        (is_begun (state_after choose h) tilde) in
        let one = c.in-Ok-open.ensures.given choose h base k chooser taken hold in
        let all = all_taken g.M.StoreMemory.takes g.met.M.StoreMemory.ticks_are_taken choose h a taken open_taken in
        let both = filled_on g.D.Disk g.M.Book.ManifestState.fits c.args.store.now.run g.M.StoreMemory.holds choose h a b base k
        c.open.new.store c.fill.new.store c.args.disk.now c.open.new.disk c.fill.new.disk one
        (read.done choose (given_all choose h a) base one.count chooser all one.hold) in
        let more = all_taken g.M.StoreMemory.takes g.met.M.StoreMemory.ticks_are_taken choose h (a ++ b) taken
        (all_more g.M.StoreMemory.takes a b open_taken (blocks_taken g.M.StoreMemory.takes c.args.self.moment c.requires.adds read.pieces
        read.sizes)) in
        gives_on g.D.Disk g.M.Book.ManifestState.fits c.args.store.now.run g.M.StoreMemory.holds choose h (a
        ++ b) (end_order c.args.self.moment ∷ []) base k c.fill.new.store c.end.new.store c.args.disk.now c.fill.new.disk c.end.new.disk
        both (Err c.in-Err-end.fault)
        (c.in-Err-end.ensures.given choose (given_all choose h (a ++ b)) base both.count chooser more both.hold);
  };
  over = c.in-Err-end.ensures.over;
  measured = λ uncut measured. c.in-Err-end.ensures.measured uncut
      (c.in-Ok-fill.ensures.measured refl (c.in-Ok-open.ensures.measured refl measured));
  undamaged = λ file at is choose h base k chooser taken hold.
      let read = c.in-Ok-fill.ensures.read in
      let a = opening (is_begun (state_after choose h) tilde) c.args.origin c.args.self.moment in
      let b = map (block_order c.args.self.moment) read.pieces in
      let open_taken = opening_taken g.M.StoreMemory.takes c.args.origin c.args.self.moment c.requires.ends c.requires.begins
      (is_begun (state_after choose h) tilde) in
      let one = c.in-Ok-open.ensures.given choose h base k chooser taken hold in
      let all = all_taken g.M.StoreMemory.takes g.met.M.StoreMemory.ticks_are_taken choose h a taken open_taken in
      let both = filled_on g.D.Disk g.M.Book.ManifestState.fits c.args.store.now.run g.M.StoreMemory.holds choose h a b base k
      c.open.new.store c.fill.new.store c.args.disk.now c.open.new.disk c.fill.new.disk one
      (read.done choose (given_all choose h a) base one.count chooser all one.hold) in
      let more = all_taken g.M.StoreMemory.takes g.met.M.StoreMemory.ticks_are_taken choose h (a ++ b) taken
      (all_more g.M.StoreMemory.takes a b open_taken (blocks_taken g.M.StoreMemory.takes c.args.self.moment c.requires.adds read.pieces
      read.sizes)) in
      let was : c.in-Err-end.fault ≡ faults.Commit (commits.Damaged file at) =
      given_back c.in-Err-end.fault (faults.Commit (commits.Damaged file at)) is in
      c.in-Err-end.ensures.undamaged file at (ap (λ (f : GiveFault). Err f) was) choose (given_all choose h (a ++ b)) base both.count
      chooser more both.hold;
  placed = λ file at is. c.in-Err-end.ensures.placed file at (ap (λ (f : GiveFault). Err f)
      (given_back c.in-Err-end.fault (faults.Commit (commits.Damaged file at)) is));
  told = anyhow_through (g.D.Disk.seen c.args.disk.now) (g.D.Disk.seen c.fill.new.disk) (g.D.Disk.seen c.end.new.disk)
      (anyhow_through (g.D.Disk.seen c.args.disk.now) (g.D.Disk.seen c.open.new.disk) (g.D.Disk.seen c.fill.new.disk) c.open.ensures.told
      c.fill.ensures.told) c.end.ensures.told;
  later = omega (arith, c.open.ensures.later, c.fill.ensures.later, c.end.ensures.later);
  read_later = c.fill.ensures.read_later;
  cause = λ is.
      rose_later (g.D.Disk.faults c.args.disk.now) (g.D.Disk.faults c.fill.new.disk) (g.D.Disk.faults c.end.new.disk)
      (omega (arith, c.open.ensures.later, c.fill.ensures.later))
      (c.in-Err-end.ensures.cause (given_back c.in-Err-end.fault (faults.Commit commits.Disk) is));
}

pub open-requires-clause-over : goal.open-requires-clause-over
open-requires-clause-over g c = c.requires.over

pub open-requires-clause-ends : goal.open-requires-clause-ends
open-requires-clause-ends g c = c.requires.ends

pub open-requires-clause-begins : goal.open-requires-clause-begins
open-requires-clause-begins g c = c.requires.begins

pub fill-requires-clause-over : goal.fill-requires-clause-over
fill-requires-clause-over g c = c.in-Ok-open.ensures.over refl

pub fill-requires-clause-takes : goal.fill-requires-clause-takes
fill-requires-clause-takes g c = c.requires.adds

pub end-requires-clause-over : goal.end-requires-clause-over
end-requires-clause-over g c = c.in-Ok-fill.ensures.over refl

pub end-requires-clause-takes : goal.end-requires-clause-takes
end-requires-clause-takes g c = c.requires.ends
