use Rattle.std.proofs.lemmas.Result.{err_from_is_err_and}
use Rattle.ix_model.specs.declared.commands.Command.TheVariants.{Configure}
use Rattle.ix_apply.proofs.Causes.{work_full}
use Rattle.ix_apply.proofs.Stepping.{may_be_done, stays_within}
use Rattle.ix_apply.proofs.context.CommandContext.ended.Goals as goal

pub returns-in_err-worked-clause-full : goal.returns-in_err-worked-clause-full
returns-in_err-worked-clause-full c =
    let p = err_from_is_err_and c.from_residual.result c.from_residual.ensures.1 in
    rw (p.1, p.2) (λ full. record {
      over = λ config choose history given h before behind.
          c.in_err-worked.ensures.full (work_full c.in_err-worked.field-0.0 full) choose history config c.args.self.now.moment
          (may_be_done choose history (Configure config) given c.args.self.now h)
          (stays_within choose history (Configure config) given c.args.self.now h before behind);
    })

pub returns-clause-done : goal.returns-clause-done
returns-clause-done c =
    record {
      works = λ config choose history given h. c.in_ok-worked.ensures.done choose history config c.args.self.now.moment
          (may_be_done choose history (Configure config) given c.args.self.now h);
    }
