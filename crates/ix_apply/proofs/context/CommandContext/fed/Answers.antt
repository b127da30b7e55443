use mir.Val.{SFits}
use Rattle.std.proofs.lemmas.Int.{to_z-of_z}
use Rattle.std.proofs.Common.{rules, w64}
use Rattle.std.proofs.lemmas.Result.{err_from_is_err_and}
use Rattle.ix_model.specs.declared.commands.Command.TheVariants.{Block}
use Rattle.ix_apply.proofs.Causes.{work_full}
use Rattle.ix_apply.proofs.Stepping.{may_be_done, stays_within}
use Rattle.ix_apply.proofs.context.CommandContext.fed.Goals as goal

pub returns-in_err-worked-clause-full : goal.returns-in_err-worked-clause-full
returns-in_err-worked-clause-full c =
    let f : SFits w64 c.args.self.now.moment = search rules in
    let p = err_from_is_err_and c.from_residual.result c.from_residual.ensures.1 in
    rw (p.1, p.2) (λ full. record {
      over = λ spot choose history given h before behind.
          (simp to_z-of_z at c.in_err-worked.ensures.full) (work_full c.in_err-worked.field-0.0 full) choose history spot
          (may_be_done choose history (Block c.args.channel.now c.args.bytes.now spot) given c.args.self.now h)
          (stays_within choose history (Block c.args.channel.now c.args.bytes.now spot) given c.args.self.now h before behind);
    })

pub returns-clause-done : goal.returns-clause-done
returns-clause-done c =
    let f : SFits w64 c.args.self.now.moment = search rules in
    record {
      works = λ spot choose history given h. (simp to_z-of_z at c.in_ok-worked.ensures.done) choose history spot
          (may_be_done choose history (Block c.args.channel.now c.args.bytes.now spot) given c.args.self.now h);
    }
