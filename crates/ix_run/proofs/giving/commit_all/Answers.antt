use Rattle.std.proofs.Common.{◌≡◌, refl, ap, arith}
use Rattle.std.specs.Prelude.{Result, Ok, Err, IfErr, OnOk}
use Rattle.ix_disk.specs.declared.disk.Disk.{Ghosts}
use Rattle.ix_commit.specs.Snapshot.{NothingStaged, KnowsLogLength, LogsAtEnd}
use Rattle.ix_commit.specs.declared.fault.CommitFault.{CommitFault}
use Rattle.ix_commit.specs.declared.fault.CommitFault.TheVariants as commits
use Rattle.ix_commit.specs.declared.committer.Committer.{Committer}
use Rattle.ix_run.specs.Resting.{CheckpointReady}
use Rattle.ix_run.proofs.Gone.{stood_either}
use Rattle.ix_run.proofs.giving.commit_all.Goals as goal

on_ok_by : (result : Result Unit CommitFault) (P : Type 0) → ((done : Unit) → result ≡ Ok done → P) → OnOk result P
on_ok_by (Ok done) P so = so done refl
on_ok_by (Err fault) P so = tt

at_ok : (result : Result Unit CommitFault) (done : Unit) (P : Type 0) → result ≡ Ok done → OnOk result P → P
at_ok (Ok all) done P is so = so
at_ok (Err fault) done P is so = cc

rests : {D : Type 0} (g : Ghosts D) (committer : Committer) (disk : D) (result : Result Unit CommitFault) →
    OnOk result (LogsAtEnd g committer disk) → OnOk result (NothingStaged committer) → OnOk result (KnowsLogLength g committer disk) →
    OnOk result (CheckpointReady g committer disk)
rests g committer disk (Ok done) over idle measured = record { over = over; idle = idle; measured = measured }
rests g committer disk (Err fault) over idle measured = tt

caused : (result : Result Unit CommitFault) (P : Type 0) → (result ≡ Err commits.Disk → P) →
    IfErr result (λ fault. fault ≡ commits.Disk → P)
caused (Ok done) P so = tt
caused (Err fault) P so = λ is. so (ap (λ (f : CommitFault). Err f) is)

pub returns : goal.returns
returns g c = record {
  done = on_ok_by c.commit.result _ (λ done is. λ choose h base k hold.
      at_ok c.commit.result done _ is (c.commit.ensures.done choose h base k hold));
  stood = λ choose h base k hold.
      stood_either g.D.Disk _ c.args.store.now.run g.M.StoreMemory.holds choose h c.args.store.now.run k c.args.disk.now c.commit.new.disk
      (omega arith) hold.staged.within (c.commit.ensures.images choose h base k hold);
  over = c.commit.ensures.over;
  run = c.commit.ensures.run;
  rest = λ measured.
      rests g.D.Disk c.commit.new.self.committer c.commit.new.disk c.commit.result c.commit.ensures.over c.commit.ensures.idle
      (c.commit.ensures.measured (λ idle. measured));
  undamaged = c.commit.ensures.undamaged;
  placed = λ file at is. (c.commit.ensures.damaged file at is).1;
  told = c.commit.ensures.told;
  later = c.commit.ensures.later;
  cause = caused c.commit.result _ c.commit.ensures.cause;
}
