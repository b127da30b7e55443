use Rattle.std.proofs.Common.{◌≡◌, ℕ, List, true, false, sym, ap, ◌∙◌, arith}
use Rattle.std.specs.Prelude.{Result, Err}
use Rattle.std.proofs.lemmas.Bool.{false≢true, true≢false}
use Rattle.ix_disk.proofs.Runs.{rose_earlier, rose_later}
use Rattle.ix_commit.specs.declared.fault.CommitFault.{CommitFault}
use Rattle.ix_commit.specs.declared.fault.CommitFault.TheVariants as commits
use Rattle.ix_commit.proofs.Reading.{anyhow_through}
use Rattle.ix_run.specs.Storing.{is_cut}
use Rattle.ix_run.specs.declared.giving.GiveFault.{GiveFault}
use Rattle.ix_run.specs.declared.giving.GiveFault.TheVariants as faults
use Rattle.ix_pass.specs.Filling.{gave_of}
use Rattle.ix_pass.specs.declared.fault.PassFault.{PassFault}
use Rattle.ix_pass.specs.declared.fault.PassFault.TheVariants as stops
use Rattle.ix_pass.proofs.Joining.{visits_less}
use Rattle.ix_pass.proofs.Leaving.{failed, settled, cut, gave_holds}
use Rattle.ix_pass.proofs.committing.pass.Goals as goal

cause_back : (a b : CommitFault) → (let result : Result (List ℕ) PassFault = Err (stops.Given (faults.Commit a)) in
    result ≡ Err (stops.Given (faults.Commit b))) → a ≡ b
cause_back a b is = cc

not_input : {given : GiveFault} → (let result : Result (List ℕ) PassFault = Err (stops.Given given) in result ≡ Err stops.Input) → ⊥
not_input is = cc

cut_at : (result : Result Unit GiveFault) (fault : CommitFault) → is_cut result ≡ false → result ≡ Err (faults.Commit fault) → ⊥
cut_at result fault uncut is = true≢false (sym (ap is_cut is) ∙ uncut)

pub returns-then-is_pass_cut : goal.returns-then-is_pass_cut
returns-then-is_pass_cut g c =
    let vis = c.visit_files-passed.ensures.visited in
    let is : is_cut (gave_of c.visit_files-passed.result) ≡ true = sym c.is_pass_cut.ensures ∙ c.if-is_pass_cut.true in
    record {
      passed = record {
        visits = vis.visits;
        orders = vis.orders;
        rest = vis.rest;
        files_are = vis.files_are;
        whole = vis.whole;
        asked = vis.asked;
        done = record {
          taken = vis.done.went.taken;
          are = vis.done.are;
          kept = λ choose h base k chooser taken hold.
              cut g.D.Disk g.M.Book.ManifestState.fits c.args.store.now.run g.M.StoreMemory.holds choose h base k c.visit_files-passed.new.store c.args.disk.now
              c.visit_files-passed.new.disk (gave_of c.visit_files-passed.result) vis.orders is
              (vis.done.went.given choose h base k chooser taken hold);
          text = vis.done.text;
        };
      };
      over = vis.done.went.over;
      rest = λ uncut measured. absurd (false≢true (sym uncut ∙ is));
      undamaged = λ file at e. vis.done.went.undamaged file at (ap gave_of e);
      placed = λ file at e. vis.done.went.placed file at (ap gave_of e);
      told = vis.done.went.told;
      later = vis.done.went.later;
      cause = λ e. vis.done.went.cause (ap gave_of e);
      failed = c.visit_files-passed.ensures.failed;
      same = c.visit_files-passed.ensures.same;
      tree_later = c.visit_files-passed.ensures.later;
      tree_missing = c.visit_files-passed.ensures.later_missing;
    }

pub returns-in-Ok : goal.returns-in-Ok
returns-in-Ok g c =
    let vis = c.visit_files-passed.ensures.visited in
    let not : is_cut (gave_of c.visit_files-passed.result) ≡ false = sym c.is_pass_cut.ensures ∙ c.if-is_pass_cut.false in
    record {
      passed = record {
        visits = vis.visits;
        orders = vis.orders;
        rest = vis.rest;
        files_are = vis.files_are;
        whole = vis.whole;
        asked = vis.asked;
        done = record {
          taken = vis.done.went.taken;
          are = vis.done.are;
          kept = λ choose h base k chooser taken hold.
              settled g.D.Disk g.M.Book.ManifestState.fits c.args.store.now.run g.M.StoreMemory.holds choose h base k c.visit_files-passed.new.store
              c.commit_all.new.store c.args.disk.now c.visit_files-passed.new.disk c.commit_all.new.disk
              (c.commit_all.ensures.stood choose) c.commit_all.ensures.run (c.in-Ok.ensures.done choose) (gave_of c.visit_files-passed.result) vis.orders not
              (vis.done.went.given choose h base k chooser taken hold);
          text = vis.done.text;
        };
      };
      over = λ uncut. c.in-Ok.ensures.over;
      rest = λ uncut measured. c.in-Ok.ensures.rest (vis.done.went.measured not measured);
      undamaged = λ file at e choose h base k chooser taken hold.
          absurd (cut_at (gave_of c.visit_files-passed.result) (commits.Damaged file at) not (ap gave_of e));
      placed = λ file at e. absurd (cut_at (gave_of c.visit_files-passed.result) (commits.Damaged file at) not (ap gave_of e));
      told = anyhow_through (g.D.Disk.seen c.args.disk.now) (g.D.Disk.seen c.visit_files-passed.new.disk)
          (g.D.Disk.seen c.commit_all.new.disk) vis.done.went.told c.commit_all.ensures.told;
      later = omega (arith, vis.done.went.later, c.commit_all.ensures.later);
      cause = λ e. rose_earlier (g.D.Disk.faults c.args.disk.now) (g.D.Disk.faults c.visit_files-passed.new.disk)
          (g.D.Disk.faults c.commit_all.new.disk) (vis.done.went.cause (ap gave_of e)) c.commit_all.ensures.later;
      failed = c.visit_files-passed.ensures.failed;
      same = c.visit_files-passed.ensures.same;
      tree_later = c.visit_files-passed.ensures.later;
      tree_missing = c.visit_files-passed.ensures.later_missing;
    }

pub returns-in-Err : goal.returns-in-Err
returns-in-Err g c =
    let vis = c.visit_files-passed.ensures.visited in
    let not : is_cut (gave_of c.visit_files-passed.result) ≡ false = sym c.is_pass_cut.ensures ∙ c.if-is_pass_cut.false in
    record {
      passed = record {
        visits = vis.visits;
        orders = vis.orders;
        rest = vis.rest;
        files_are = vis.files_are;
        whole = λ e. absurd (false≢true e);
        asked = vis.asked;
        done = record {
          taken = vis.done.went.taken;
          are = λ choose h base k chooser taken hold. visits_less choose (g.T.Tree.files c.args.tree.now) c.args.round.close _ h vis.visits
              vis.orders (vis.done.are choose h base k chooser taken hold);
          kept = λ choose h base k chooser taken hold.
              failed g.D.Disk g.M.Book.ManifestState.fits c.args.store.now.run g.M.StoreMemory.holds choose h base k c.visit_files-passed.new.store
              c.commit_all.new.store c.args.disk.now c.visit_files-passed.new.disk c.commit_all.new.disk
              (c.commit_all.ensures.stood choose) (gave_of c.visit_files-passed.result) c.in-Err.fault vis.orders not
              (vis.done.went.given choose h base k chooser taken hold);
          text = tt;
        };
      };
      over = λ uncut. absurd (true≢false uncut);
      rest = λ uncut measured. absurd (true≢false uncut);
      undamaged = λ file at e choose h base k chooser taken hold.
          let gave = gave_holds g.D.Disk g.M.Book.ManifestState.fits c.args.store.now.run g.M.StoreMemory.holds choose h base k c.visit_files-passed.new.store
          c.args.disk.now c.visit_files-passed.new.disk (gave_of c.visit_files-passed.result) vis.orders not
          (vis.done.went.given choose h base k chooser taken hold) in
          c.in-Err.ensures.undamaged file at (ap (λ (f : CommitFault). Err f) (cause_back c.in-Err.fault (commits.Damaged file at) e))
          choose gave.0 base gave.1 gave.2;
      placed = λ file at e.
          c.in-Err.ensures.placed file at
          (ap (λ (f : CommitFault). Err f) (cause_back c.in-Err.fault (commits.Damaged file at) e));
      told = anyhow_through (g.D.Disk.seen c.args.disk.now) (g.D.Disk.seen c.visit_files-passed.new.disk)
          (g.D.Disk.seen c.commit_all.new.disk) vis.done.went.told c.commit_all.ensures.told;
      later = omega (arith, vis.done.went.later, c.commit_all.ensures.later);
      cause = λ e. rose_later (g.D.Disk.faults c.args.disk.now) (g.D.Disk.faults c.visit_files-passed.new.disk)
          (g.D.Disk.faults c.commit_all.new.disk) vis.done.went.later (c.in-Err.ensures.cause (cause_back c.in-Err.fault commits.Disk e));
      failed = λ e. absurd (not_input e);
      same = c.visit_files-passed.ensures.same;
      tree_later = c.visit_files-passed.ensures.later;
      tree_missing = c.visit_files-passed.ensures.later_missing;
    }

pub commit_all-requires : goal.commit_all-requires
commit_all-requires g c = c.visit_files-passed.ensures.visited.done.went.over (sym c.is_pass_cut.ensures ∙ c.if-is_pass_cut.false)
