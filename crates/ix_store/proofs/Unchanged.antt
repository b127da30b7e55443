-- A store that nothing happened to.
use Rattle.std.proofs.Common.{◌≡◌, refl, sym, subst}
use Rattle.ix_commit.specs.Undo.{IsSame, HasSameLogs}
use Rattle.ix_commit.specs.declared.committer.Committer.{Committer}
use Rattle.ix_commit.proofs.Cutting.{logs_same}
use Rattle.ix_store.specs.Holding.{IsUnchanged, HasSameRun}
use Rattle.ix_store.specs.declared.store.Store.{Store}

pub same_self : (a : Committer) → IsSame a a
same_self a = record { logs = logs_same a; bytes = refl; parts = refl; copies = refl; slots = refl }

pub unchanged_self : {M : Type 0} (s : Store M) → IsUnchanged s s
unchanged_self s = record {
  memory = refl;
  committer = same_self s.committer;
  run = refl;
  drawn = refl;
  committed = refl;
  group = refl;
  closed = refl;
}

pub run_self : {M : Type 0} (s : Store M) → HasSameRun s s
run_self s = record { logs = logs_same s.committer; run = refl; drawn = refl; committed = refl; closed = refl }

pub logs_moved : (a b c : Committer) → HasSameLogs a b → c ≡ b → HasSameLogs a c
logs_moved a b c same is = subst (HasSameLogs a) (sym is) same
