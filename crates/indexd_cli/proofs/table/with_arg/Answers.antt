use Rattle.std.proofs.Common.{◌≡◌, ◌∙◌, false, ap, sym}
use Rattle.std.proofs.lemmas.Result.{IfOk-at_ok}
use Rattle.clap.specs.Words.{app_of, rule_of}
use Rattle.clap.specs.declared.builder.arg.Arg.{Arg}
use Rattle.clap.specs.declared.builder.command.Command.{Command}
use Rattle.clap.specs.declared.builder.command.Command.TheViews.{out-Command as fields_of}
use Rattle.indexd_cli.proofs.TableSteps.{arg_added, none_in_arg}
use Rattle.indexd_cli.proofs.table.with_arg.Goals as goal

pub returns-in-Err-clause-app : goal.returns-in-Err-clause-app
returns-in-Err-clause-app c = λ app rule is made. tt

pub returns-in-Ok-clause-app : goal.returns-in-Ok-clause-app
returns-in-Ok-clause-app c = λ app rule is made.
    let same : c.args.arg ≡ c.in-Ok.parts.1 = cc (c.in-Ok.ensures.1) in
    arg_added c.arg.result c.in-Ok.parts.0 c.in-Ok.parts.1 c.arg.ensures
    (ap (λ (a : Arg). a.global) (sym same) ∙ c.requires.local) app rule (ap rule_of (sym same) ∙ is)
    (IfOk-at_ok (λ (x : Command). app_of x ≡ app) c.in-Ok.ensures.0 made)

pub returns-in-Ok-clause-none_global : goal.returns-in-Ok-clause-none_global
returns-in-Ok-clause-none_global c =
    let same : c.args.arg ≡ c.in-Ok.parts.1 = cc (c.in-Ok.ensures.1) in
    none_in_arg c.arg.result c.in-Ok.parts.0 c.in-Ok.parts.1 c.arg.ensures
    (IfOk-at_ok (λ (x : Command). (fields_of x).has_globals ≡ false) c.in-Ok.ensures.0 c.requires.none_global)
    (ap (λ (a : Arg). a.global) (sym same) ∙ c.requires.local)
