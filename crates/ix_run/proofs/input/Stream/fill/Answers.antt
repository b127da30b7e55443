use Rattle.std.proofs.Common.{◌≡◌, ◌≤◌, ◌+◌, ℕ, List, [], ◌∷◌, ◌++◌, length, map, take, refl, sym, ap, subst, arith}
use Rattle.std.specs.Prelude.{Option, Result, Ok, Err}
use Rattle.std.proofs.lemmas.List.{length-take, length-take-le}
use Rattle.ix_base.specs.Told.{Told, Took}
use Rattle.ix_disk.proofs.Runs.{rose_later}
use Rattle.ix_commit.specs.declared.fault.CommitFault.TheVariants as commits
use Rattle.ix_commit.proofs.Reading.{anyhow_same, anyhow_through}
use Rattle.ix_store.proofs.Booked.{all_more}
use Rattle.ix_run.specs.Giving.{given_all}
use Rattle.ix_run.specs.Storing.{block_order, joined, IsBlock, input_limit}
use Rattle.ix_run.specs.declared.giving.GiveFault.{GiveFault}
use Rattle.ix_run.specs.declared.giving.GiveFault.TheVariants as faults
use Rattle.ix_run.specs.declared.input.RunFault.{RunFault}
use Rattle.ix_run.specs.declared.input.RunFault.TheVariants as stops
use Rattle.ix_run.proofs.Stored.{took_none, took_more, all_taken, blocks_taken, given_none}
use Rattle.ix_run.proofs.Filled.{joined_length, took_end, end_still, given_block, feeds_halt, feeds_all}
use Rattle.ix_run.proofs.input.Stream.fill.Goals as goal

not_ok : {done : Unit} {fault : RunFault} → (let result : Result Unit RunFault = Ok done in result ≡ Err fault) → ⊥
not_ok is = cc

not_input : {fault : GiveFault} → (let result : Result Unit RunFault = Err stops.Input in result ≡ Err (stops.Given fault)) → ⊥
not_input is = cc

not_endless : {fault : GiveFault} → (let result : Result Unit RunFault = Err stops.Endless in result ≡ Err (stops.Given fault)) → ⊥
not_endless is = cc

given_back : (a b : GiveFault) → (let result : Result Unit RunFault = Err (stops.Given a) in result ≡ Err (stops.Given b)) → a ≡ b
given_back a b is = cc

pub loop-taken-init : goal.loop-taken-init
loop-taken-init g c = record {
  within = omega arith;
  pieces = [];
  count = refl;
  sizes = tt;
  took = took_none (g.S.Source.left c.args.input.now);
  given = λ choose h base k chooser taken hold. given_none g.D.Disk g.M.Book.ManifestState.fits c.args.store.now.run g.M.StoreMemory.holds
      choose h base k c.args.store.now c.args.disk.now refl hold;
  over = c.requires.over;
  measured = λ measured. measured;
  told = anyhow_same (g.D.Disk.seen c.args.disk.now) (g.D.Disk.seen c.args.disk.now) refl;
  later = omega arith;
  read_later = omega arith;
}

pub returns-in-Err : goal.returns-in-Err
returns-in-Err g c = record {
  read = record {
    pieces = c.loop-taken.invariant.pieces;
    sizes = c.loop-taken.invariant.sizes;
    took = subst (λ (x : Option (List ℕ)). Told (Took (joined c.loop-taken.invariant.pieces)) (g.S.Source.left c.args.input.now) x)
        (sym c.in-Err.ensures.failed) c.loop-taken.invariant.took;
    read = (
      omega (arith, c.loop-taken.invariant.count),
      rose_later (g.S.Source.faults c.args.input.now) (g.S.Source.faults c.loop-taken.input) (g.S.Source.faults c.read.new.self)
          c.loop-taken.invariant.read_later (c.in-Err.ensures.cause.failed refl),
    );
    done = c.loop-taken.invariant.given;
  };
  over = λ uncut. c.loop-taken.invariant.over;
  measured = λ uncut measured. c.loop-taken.invariant.measured measured;
  undamaged = λ file at is. absurd (not_input is);
  placed = λ file at is. absurd (not_input is);
  told = c.loop-taken.invariant.told;
  later = c.loop-taken.invariant.later;
  read_later = omega (arith, c.loop-taken.invariant.read_later, c.read.ensures.cause.later);
  cause = λ is. absurd (not_input is);
}

pub returns-then-n-eq0 : goal.returns-then-n-eq0
returns-then-n-eq0 g c = record {
  read = record {
    pieces = c.loop-taken.invariant.pieces;
    sizes = c.loop-taken.invariant.sizes;
    took = took_end (joined c.loop-taken.invariant.pieces) (take c.in-Ok.n c.read.new.buf) (g.S.Source.left c.args.input.now)
        (g.S.Source.left c.loop-taken.input) (g.S.Source.left c.read.new.self)
        (omega (arith, length-take c.in-Ok.n c.read.new.buf)) c.loop-taken.invariant.took c.in-Ok.ensures.bytes;
    read = (
      omega (arith, c.loop-taken.invariant.count),
      end_still (take c.in-Ok.n c.read.new.buf) (g.S.Source.left c.loop-taken.input) (g.S.Source.left c.read.new.self)
          (c.in-Ok.ensures.end c.if-n-eq0.true (omega (
            arith,
            c.min-most.ensures,
            length-take-le c.min-most.result c.loop-taken.room (omega (arith, c.min-most.ensures)),
          ))) c.in-Ok.ensures.bytes,
    );
    done = λ choose h base k chooser taken hold.
        feeds_all g.D.Disk g.M.Book.ManifestState.fits c.args.store.now.run g.M.StoreMemory.holds choose h
        (map (block_order c.args.self.moment) c.loop-taken.invariant.pieces) base k c.loop-taken.store c.args.disk.now c.loop-taken.disk
        (c.loop-taken.invariant.given choose h base k chooser taken hold);
  };
  over = λ uncut. c.loop-taken.invariant.over;
  measured = λ uncut measured. c.loop-taken.invariant.measured measured;
  undamaged = λ file at is. absurd (not_ok is);
  placed = λ file at is. absurd (not_ok is);
  told = c.loop-taken.invariant.told;
  later = c.loop-taken.invariant.later;
  read_later = omega (arith, c.loop-taken.invariant.read_later, c.read.ensures.cause.later);
  cause = λ is. absurd (not_ok is);
}

pub add-requires-clause-takes : goal.add-requires-clause-takes
add-requires-clause-takes g c = c.requires.takes (take c.in-Ok.n c.read.new.buf)
    (omega (
      arith,
      c.in-Ok.ensures.count,
      length-take c.in-Ok.n c.read.new.buf,
      length-take c.min-most.result c.loop-taken.room,
      c.min-most.ensures,
    ))

pub returns-in-Err-add : goal.returns-in-Err-add
returns-in-Err-add g c = record {
  read = let bytes : List ℕ = take c.in-Ok.n c.read.new.buf in
      let size : length bytes ≤ 1048576 = omega (
        arith,
        c.in-Ok.ensures.count,
        length-take c.in-Ok.n c.read.new.buf,
        length-take c.min-most.result c.loop-taken.room,
        c.min-most.ensures,
      ) in
      let part : c.loop-taken.taken + length bytes ≤ input_limit =
      omega (
        arith,
        c.in-Ok.ensures.count,
        length-take c.in-Ok.n c.read.new.buf,
        length-take c.min-most.result c.loop-taken.room,
        c.min-most.ensures,
      ) in record {
        pieces = c.loop-taken.invariant.pieces ++ bytes ∷ [];
        sizes = all_more IsBlock c.loop-taken.invariant.pieces (bytes ∷ []) c.loop-taken.invariant.sizes (size, tt);
        took = took_more c.loop-taken.invariant.pieces bytes (g.S.Source.left c.args.input.now) (g.S.Source.left c.loop-taken.input)
            (g.S.Source.left c.read.new.self) c.loop-taken.invariant.took c.in-Ok.ensures.bytes;
        read = omega (arith, joined_length c.loop-taken.invariant.pieces bytes, c.loop-taken.invariant.count, part);
        done = λ choose h base k chooser taken hold.
            let one = c.loop-taken.invariant.given choose h base k chooser taken hold in
            feeds_halt g.D.Disk g.M.Book.ManifestState.fits c.args.store.now.run g.M.StoreMemory.holds choose h
            (map (block_order c.args.self.moment) (c.loop-taken.invariant.pieces ++ bytes ∷ [])) base k c.add.new.store c.args.disk.now
            c.add.new.disk c.in-Err-add.fault
            (given_block g.D.Disk g.M.Book.ManifestState.fits c.args.store.now.run g.M.StoreMemory.holds choose h base k c.loop-taken.store
            c.add.new.store c.args.disk.now c.loop-taken.disk c.add.new.disk c.args.self.moment c.loop-taken.invariant.pieces bytes
            (Err c.in-Err-add.fault) one
            (c.in-Err-add.ensures.given choose (given_all choose h (map (block_order c.args.self.moment) c.loop-taken.invariant.pieces))
            base one.count chooser
            (all_taken g.M.StoreMemory.takes g.met.M.StoreMemory.ticks_are_taken choose h
            (map (block_order c.args.self.moment) c.loop-taken.invariant.pieces) taken
            (blocks_taken g.M.StoreMemory.takes c.args.self.moment c.requires.takes c.loop-taken.invariant.pieces
            c.loop-taken.invariant.sizes)) one.hold));
      };
  over = c.in-Err-add.ensures.over;
  measured = λ whole before. c.in-Err-add.ensures.measured whole (c.loop-taken.invariant.measured before);
  undamaged = λ file at is choose h base k chooser taken hold.
      let one = c.loop-taken.invariant.given choose h base k chooser taken hold in
      let was : c.in-Err-add.fault ≡ faults.Commit (commits.Damaged file at) =
      given_back c.in-Err-add.fault (faults.Commit (commits.Damaged file at)) is in
      c.in-Err-add.ensures.undamaged file at (ap (λ (f : GiveFault). Err f) was) choose
      (given_all choose h (map (block_order c.args.self.moment) c.loop-taken.invariant.pieces)) base one.count chooser
      (all_taken g.M.StoreMemory.takes g.met.M.StoreMemory.ticks_are_taken choose h
      (map (block_order c.args.self.moment) c.loop-taken.invariant.pieces) taken
      (blocks_taken g.M.StoreMemory.takes c.args.self.moment c.requires.takes c.loop-taken.invariant.pieces c.loop-taken.invariant.sizes))
      one.hold;
  placed = λ file at is. c.in-Err-add.ensures.placed file at (ap (λ (f : GiveFault). Err f)
      (given_back c.in-Err-add.fault (faults.Commit (commits.Damaged file at)) is));
  told = anyhow_through (g.D.Disk.seen c.args.disk.now) (g.D.Disk.seen c.loop-taken.disk) (g.D.Disk.seen c.add.new.disk)
      c.loop-taken.invariant.told c.add.ensures.told;
  later = omega (arith, c.loop-taken.invariant.later, c.add.ensures.later);
  read_later = omega (arith, c.loop-taken.invariant.read_later, c.read.ensures.cause.later);
  cause = λ is.
      let e = given_back c.in-Err-add.fault (faults.Commit commits.Disk) is in
      rose_later (g.D.Disk.faults c.args.disk.now) (g.D.Disk.faults c.loop-taken.disk) (g.D.Disk.faults c.add.new.disk)
      c.loop-taken.invariant.later (c.in-Err-add.ensures.cause e);
}

pub loop-taken-preserved : goal.loop-taken-preserved
loop-taken-preserved g c = let bytes : List ℕ = take c.in-Ok.n c.read.new.buf in
    let fits : c.in-Ok.n ≤ length c.read.new.buf = omega (arith, c.in-Ok.ensures.count, c.read.auto.buf) in
    let size : length bytes ≤ 1048576 = omega (
      arith,
      c.in-Ok.ensures.count,
      length-take c.in-Ok.n c.read.new.buf,
      length-take c.min-most.result c.loop-taken.room,
      c.min-most.ensures,
    ) in record {
      within = omega (arith, c.in-Ok.ensures.count, length-take c.min-most.result c.loop-taken.room, c.min-most.ensures);
      pieces = c.loop-taken.invariant.pieces ++ bytes ∷ [];
      count = omega (
        arith,
        joined_length c.loop-taken.invariant.pieces bytes,
        length-take-le c.in-Ok.n c.read.new.buf fits,
        c.loop-taken.invariant.count,
      );
      sizes = all_more IsBlock c.loop-taken.invariant.pieces (bytes ∷ []) c.loop-taken.invariant.sizes (size, tt);
      took = took_more c.loop-taken.invariant.pieces bytes (g.S.Source.left c.args.input.now) (g.S.Source.left c.loop-taken.input)
          (g.S.Source.left c.read.new.self) c.loop-taken.invariant.took c.in-Ok.ensures.bytes;
      given = λ choose h base k chooser taken hold.
          let one = c.loop-taken.invariant.given choose h base k chooser taken hold in
          given_block g.D.Disk g.M.Book.ManifestState.fits c.args.store.now.run g.M.StoreMemory.holds choose h base k c.loop-taken.store
          c.add.new.store c.args.disk.now c.loop-taken.disk c.add.new.disk c.args.self.moment c.loop-taken.invariant.pieces bytes
          (Ok tt) one
          (c.in-Ok-add.ensures.given choose (given_all choose h (map (block_order c.args.self.moment) c.loop-taken.invariant.pieces)) base
          one.count chooser
          (all_taken g.M.StoreMemory.takes g.met.M.StoreMemory.ticks_are_taken choose h
          (map (block_order c.args.self.moment) c.loop-taken.invariant.pieces) taken
          (blocks_taken g.M.StoreMemory.takes c.args.self.moment c.requires.takes c.loop-taken.invariant.pieces
          c.loop-taken.invariant.sizes)) one.hold);
      over = c.in-Ok-add.ensures.over refl;
      told = anyhow_through (g.D.Disk.seen c.args.disk.now) (g.D.Disk.seen c.loop-taken.disk) (g.D.Disk.seen c.add.new.disk)
          c.loop-taken.invariant.told c.add.ensures.told;
      measured = λ measured. c.in-Ok-add.ensures.measured refl (c.loop-taken.invariant.measured measured);
      later = omega (arith, c.loop-taken.invariant.later, c.add.ensures.later);
      read_later = omega (arith, c.loop-taken.invariant.read_later, c.read.ensures.cause.later);
    }

pub returns : goal.returns
returns g c = record {
  read = record {
    pieces = c.loop-taken.invariant.pieces;
    sizes = c.loop-taken.invariant.sizes;
    took = c.loop-taken.invariant.took;
    read = omega (arith, c.loop-taken.invariant.count, c.loop-taken.invariant.within);
    done = c.loop-taken.invariant.given;
  };
  over = λ uncut. c.loop-taken.invariant.over;
  measured = λ uncut measured. c.loop-taken.invariant.measured measured;
  undamaged = λ file at is. absurd (not_endless is);
  placed = λ file at is. absurd (not_endless is);
  told = c.loop-taken.invariant.told;
  later = c.loop-taken.invariant.later;
  read_later = c.loop-taken.invariant.read_later;
  cause = λ is. absurd (not_endless is);
}

pub add-requires-clause-over : goal.add-requires-clause-over
add-requires-clause-over g c = c.loop-taken.invariant.over
