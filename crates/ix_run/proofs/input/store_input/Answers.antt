use Rattle.std.proofs.Common.{rules, ◌≡◌, ◌∙◌, ◌∷◌, [], sym, ap, arith}
use Rattle.std.specs.Prelude.{Result, Err}
use Rattle.std.proofs.lemmas.Bool.{false≢true, true≢false}
use Rattle.std.proofs.lemmas.Int.{to_z-of_z}
use mir.Val.{SFits}
use Rattle.std.specs.Int.{w64}
use Rattle.ix_disk.proofs.Runs.{rose_earlier, rose_later}
use Rattle.ix_commit.specs.declared.fault.CommitFault.{CommitFault}
use Rattle.ix_commit.specs.declared.fault.CommitFault.TheVariants as commits
use Rattle.ix_commit.proofs.Reading.{anyhow_through}
use Rattle.ix_model.specs.Judged.{is_begun}
use Rattle.ix_model.specs.Step.{state_after}
use Rattle.ix_run.specs.Storing.{tilde, filling, end_order}
use Rattle.ix_run.specs.declared.giving.GiveFault.TheVariants as faults
use Rattle.ix_run.specs.declared.input.RunFault.{RunFault}
use Rattle.ix_run.specs.declared.input.RunFault.TheVariants as stops
use Rattle.ix_run.proofs.Stored.{read_failed, failed, settled, cut, cut_at, fed_holds}
use Rattle.ix_run.proofs.input.store_input.Goals as goal

cause_back : (a b : CommitFault) → (let result : Result Unit RunFault = Err (stops.Given (faults.Commit a)) in
    result ≡ Err (stops.Given (faults.Commit b))) → a ≡ b
cause_back a b is = cc

pub returns-then-is_run_cut : goal.returns-then-is_run_cut
returns-then-is_run_cut g c = record {
  stored = let read = c.run-stored.ensures.read in record {
    pieces = read.pieces;
    sizes = read.sizes;
    took = read.took;
    read = read.read;
    done = λ choose h base k chooser taken hold.
        let fits : SFits w64 c.args.arrival.moment = search rules in
        cut g.D.Disk g.M.Book.ManifestState.fits c.args.store.now.run g.M.StoreMemory.holds choose h base k c.run-stored.new.store
        c.args.disk.now c.run-stored.new.disk c.run-stored.result
        (filling (is_begun (state_after choose h) tilde) c.args.arrival.origin c.args.arrival.moment read.pieces)
        (end_order c.args.arrival.moment ∷ []) (sym c.is_run_cut.ensures ∙ c.if-is_run_cut.true)
        (simp to_z-of_z at (read.done choose h base k chooser taken hold));
  };
  over = c.run-stored.ensures.over;
  rest = λ uncut measured. absurd (false≢true (sym uncut ∙ (sym c.is_run_cut.ensures ∙ c.if-is_run_cut.true)));
  undamaged = c.run-stored.ensures.undamaged;
  placed = c.run-stored.ensures.placed;
  told = c.run-stored.ensures.told;
  later = c.run-stored.ensures.later;
  read_later = c.run-stored.ensures.read_later;
  cause = c.run-stored.ensures.cause;
}

pub returns-in-Ok : goal.returns-in-Ok
returns-in-Ok g c = record {
  stored = let read = c.run-stored.ensures.read in record {
    pieces = read.pieces;
    sizes = read.sizes;
    took = read.took;
    read = read.read;
    done = λ choose h base k chooser taken hold.
        let fits : SFits w64 c.args.arrival.moment = search rules in
        settled g.D.Disk g.M.Book.ManifestState.fits c.args.store.now.run g.M.StoreMemory.holds choose h base k c.run-stored.new.store
        c.commit_all.new.store c.args.disk.now c.run-stored.new.disk c.commit_all.new.disk
        (c.commit_all.ensures.stood choose) c.commit_all.ensures.run (c.in-Ok.ensures.done choose) c.run-stored.result
        (filling (is_begun (state_after choose h) tilde) c.args.arrival.origin c.args.arrival.moment read.pieces)
        (end_order c.args.arrival.moment ∷ []) (sym c.is_run_cut.ensures ∙ c.if-is_run_cut.false)
        (simp to_z-of_z at (read.done choose h base k chooser taken hold));
  };
  over = λ uncut. c.in-Ok.ensures.over;
  rest = λ uncut measured. c.in-Ok.ensures.rest (c.run-stored.ensures.measured uncut measured);
  undamaged = λ file at is choose h base k chooser taken hold.
      absurd (cut_at c.run-stored.result (commits.Damaged file at) (sym c.is_run_cut.ensures ∙ c.if-is_run_cut.false) is);
  placed = λ file at is.
      absurd (cut_at c.run-stored.result (commits.Damaged file at) (sym c.is_run_cut.ensures ∙ c.if-is_run_cut.false) is);
  told = anyhow_through (g.D.Disk.seen c.args.disk.now) (g.D.Disk.seen c.run-stored.new.disk) (g.D.Disk.seen c.commit_all.new.disk)
      c.run-stored.ensures.told c.commit_all.ensures.told;
  later = omega (arith, c.run-stored.ensures.later, c.commit_all.ensures.later);
  read_later = c.run-stored.ensures.read_later;
  cause = λ is. rose_earlier (g.D.Disk.faults c.args.disk.now) (g.D.Disk.faults c.run-stored.new.disk)
      (g.D.Disk.faults c.commit_all.new.disk) (c.run-stored.ensures.cause is) c.commit_all.ensures.later;
}

pub returns-in-Err : goal.returns-in-Err
returns-in-Err g c = record {
  stored = let read = c.run-stored.ensures.read in record {
    pieces = read.pieces;
    sizes = read.sizes;
    took = read.took;
    read = read_failed c.run-stored.result c.in-Err.fault _ _ _ _ read.read;
    done = λ choose h base k chooser taken hold.
        let fits : SFits w64 c.args.arrival.moment = search rules in
        failed g.D.Disk g.M.Book.ManifestState.fits c.args.store.now.run g.M.StoreMemory.holds choose h base k c.run-stored.new.store
        c.commit_all.new.store c.args.disk.now c.run-stored.new.disk c.commit_all.new.disk
        (c.commit_all.ensures.stood choose) c.run-stored.result c.in-Err.fault
        (filling (is_begun (state_after choose h) tilde) c.args.arrival.origin c.args.arrival.moment read.pieces)
        (end_order c.args.arrival.moment ∷ []) (sym c.is_run_cut.ensures ∙ c.if-is_run_cut.false)
        (simp to_z-of_z at (read.done choose h base k chooser taken hold));
  };
  over = λ uncut. absurd (true≢false uncut);
  rest = λ uncut measured. absurd (true≢false uncut);
  undamaged = λ file at is choose h base k chooser taken hold.
      let read = c.run-stored.ensures.read in
      let fits : SFits w64 c.args.arrival.moment = search rules in
      let fed = fed_holds g.D.Disk g.M.Book.ManifestState.fits c.args.store.now.run g.M.StoreMemory.holds choose h base k
      c.run-stored.new.store c.args.disk.now c.run-stored.new.disk c.run-stored.result
      (filling (is_begun (state_after choose h) tilde) c.args.arrival.origin c.args.arrival.moment read.pieces)
      (end_order c.args.arrival.moment ∷ []) (sym c.is_run_cut.ensures ∙ c.if-is_run_cut.false)
      (simp to_z-of_z at (read.done choose h base k chooser taken hold)) in
      let was = cause_back c.in-Err.fault (commits.Damaged file at) is in
      c.in-Err.ensures.undamaged file at (ap (λ (f : CommitFault). Err f) was) choose fed.0 base fed.1 fed.2;
  placed = λ file at is. c.in-Err.ensures.placed file at
      (ap (λ (f : CommitFault). Err f) (cause_back c.in-Err.fault (commits.Damaged file at) is));
  told = anyhow_through (g.D.Disk.seen c.args.disk.now) (g.D.Disk.seen c.run-stored.new.disk) (g.D.Disk.seen c.commit_all.new.disk)
      c.run-stored.ensures.told c.commit_all.ensures.told;
  later = omega (arith, c.run-stored.ensures.later, c.commit_all.ensures.later);
  read_later = c.run-stored.ensures.read_later;
  cause = λ is. rose_later (g.D.Disk.faults c.args.disk.now) (g.D.Disk.faults c.run-stored.new.disk) (g.D.Disk.faults c.commit_all.new.disk)
      c.run-stored.ensures.later (c.in-Err.ensures.cause (cause_back c.in-Err.fault commits.Disk is));
}

pub commit_all-requires : goal.commit_all-requires
commit_all-requires g c = c.run-stored.ensures.over (sym c.is_run_cut.ensures ∙ c.if-is_run_cut.false)

pub run-stored-requires-clause-over : goal.run-stored-requires-clause-over
run-stored-requires-clause-over g c = c.requires.over
