use Rattle.std.proofs.Common.{refl, sym, subst}
use Rattle.std.proofs.lemmas.Result.{err_from_is_err_and}
use Rattle.ix_commit.specs.declared.write_batch.WriteBatch.{WriteBatch}
use Rattle.ix_store.specs.Making.{LeadsThrough}
use Rattle.ix_store.proofs.Unchanged.{same_self}
use Rattle.ix_store.proofs.store.stage_last.Goals as goal

pub returns-in_err-second : goal.returns-in_err-second
returns-in_err-second c =
    let p = err_from_is_err_and c.from_residual.result c.from_residual.ensures.1 in
    let same = same_self c.args.committer.now in
    rw p.1 (record {
      staged = λ old new mid to stages leads. tt;
      err = same;
      logs = same.logs;
      bytes = refl;
    })

pub returns-in-Ok-clause-staged : goal.returns-in-Ok-clause-staged
returns-in-Ok-clause-staged c = λ old new mid to stages leads.
    c.in-Ok.ensures.staged old new mid to stages (subst (λ (d : WriteBatch). LeadsThrough c.args.first d old new mid to)
    (sym c.in_ok-second.ensures.made) leads)
