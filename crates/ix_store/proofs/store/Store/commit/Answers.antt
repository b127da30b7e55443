use Rattle.std.proofs.Common.{◌≡◌, ◌∙◌, refl, sym}
use Rattle.std.specs.Prelude.{Result, Ok, Err}
use Rattle.std.proofs.lemmas.Result.{err_from_is_err_and}
use Rattle.ix_disk.proofs.Runs.{always_weaker, seen_before}
use Rattle.ix_commit.specs.declared.fault.CommitFault.{CommitFault}
use Rattle.ix_store.proofs.Committed.{held_of, stands_either, holds_all}
use Rattle.ix_store.proofs.Going.{all_gone}
use Rattle.ix_store.proofs.store.Store.commit.Goals as goal

not_err : {done : Unit} {fault : CommitFault} → (let result : Result Unit CommitFault = Ok done in result ≡ Err fault) → ⊥
not_err is = cc

pub returns : goal.returns
returns g c = record {
  images = λ choose h base k hold.
      always_weaker g.D.Disk c.args.disk.now c.commit.new.disk _ _
      (stands_either g.D.Disk _ g.M.StoreMemory.holds choose h base k c.args.self.now c.args.disk.now hold)
      (c.commit.ensures.images hold.old hold.staged.new
      (held_of g.D.Disk _ g.M.StoreMemory.holds choose h base k c.args.self.now c.args.disk.now hold));
  done = λ choose h base k hold.
      holds_all g.D.Disk _ g.M.StoreMemory.holds choose h base k c.args.self.now _ c.args.disk.now c.commit.new.disk hold
      (c.in_ok-commit.ensures.done hold.old hold.staged.new
      (held_of g.D.Disk _ g.M.StoreMemory.holds choose h base k c.args.self.now c.args.disk.now hold)) c.in_ok-commit.ensures.idle
      refl refl refl refl refl c.none.ensures.done c.none.ensures.weight c.none.ensures.turned c.none.ensures.waiting;
  none = λ idle. (refl, (c.commit.ensures.none idle).1.1);
  over = c.in_ok-commit.ensures.over;
  idle = c.in_ok-commit.ensures.idle;
  measured = c.in_ok-commit.ensures.measured;
  removed = c.in_ok-commit.ensures.removed;
  gone = λ choose h base k hold.
      all_gone g.D.Disk _ g.M.StoreMemory.holds choose h base k c.args.self.now c.args.disk.now c.commit.new.disk hold
      c.in_ok-commit.ensures.removed;
  run = refl;
  memory = refl;
  closed = tt;
  damaged = λ file at is. absurd (not_err is);
  undamaged = λ file at is. absurd (not_err is);
  told = c.commit.ensures.told;
  later = c.commit.ensures.later;
  cause = λ is. absurd (not_err is);
}

pub returns-in_err-commit : goal.returns-in_err-commit
returns-in_err-commit g c =
    let p = err_from_is_err_and c.from_residual.result c.from_residual.ensures.1 in
    rw (p.1, p.2) (record {
      images = λ choose h base k hold.
          always_weaker g.D.Disk c.args.disk.now c.commit.new.disk _ _
          (stands_either g.D.Disk _ g.M.StoreMemory.holds choose h base k c.args.self.now c.args.disk.now hold)
          (c.commit.ensures.images hold.old hold.staged.new
          (held_of g.D.Disk _ g.M.StoreMemory.holds choose h base k c.args.self.now c.args.disk.now hold));
      done = λ choose h base k hold. tt;
      none = λ idle. absurd (not_err (sym (c.commit.ensures.none idle).0 ∙ c.in_err-commit.was));
      over = tt;
      idle = tt;
      measured = λ measured. tt;
      removed = tt;
      gone = λ choose h base k hold. tt;
      run = refl;
      memory = refl;
      closed = c.in_err-commit.ensures.closed;
      damaged = c.in_err-commit.ensures.damaged;
      undamaged = λ file at is choose h base k hold image seen.
          let before = seen_before _ (g.D.Disk.seen c.args.disk.now) (g.D.Disk.seen c.commit.new.disk) c.commit.ensures.told image seen in
          c.in_err-commit.ensures.sound hold.old hold.staged.new
          (held_of g.D.Disk _ g.M.StoreMemory.holds choose h base k c.args.self.now c.args.disk.now hold) before.0 before.1 file at is;
      told = c.commit.ensures.told;
      later = c.commit.ensures.later;
      cause = c.in_err-commit.ensures.cause;
    })
