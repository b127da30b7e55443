use Rattle.std.proofs.Common.{refl}
use Rattle.std.proofs.lemmas.Result.{err_from_is_err_and}
use Rattle.ix_store.proofs.store.Store.take_with.Goals as goal

pub returns-in_err-stage_last : goal.returns-in_err-stage_last
returns-in_err-stage_last g c =
    let p = err_from_is_err_and c.from_residual.result c.from_residual.ensures.1 in
    rw p.1 (record {
      memory = tt;
      staged = λ old new mid to stages leads. tt;
      group = tt;
      same = record { logs = c.stage_last.ensures.logs; run = refl; drawn = refl; committed = refl; closed = refl };
      bytes = c.stage_last.ensures.bytes;
      err = record {
        memory = refl;
        committer = c.in_err-stage_last.ensures.err;
        run = refl;
        drawn = refl;
        committed = refl;
        group = refl;
        closed = refl;
      };
    })
