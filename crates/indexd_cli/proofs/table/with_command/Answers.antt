use Rattle.std.proofs.Common.{◌≡◌, false}
use Rattle.std.proofs.lemmas.Result.{IfOk-at_ok}
use Rattle.clap.specs.Words.{app_of}
use Rattle.clap.specs.declared.builder.command.Command.{Command}
use Rattle.clap.specs.declared.builder.command.Command.TheViews.{out-Command as fields_of}
use Rattle.indexd_cli.proofs.TableSteps.{command_added, none_in_command}
use Rattle.indexd_cli.proofs.table.with_command.Goals as goal

pub returns-in-Err-clause-app : goal.returns-in-Err-clause-app
returns-in-Err-clause-app c = λ all one above made. tt

pub returns-in-Ok-clause-app : goal.returns-in-Ok-clause-app
returns-in-Ok-clause-app c = λ all one above made.
    command_added c.subcommand.result c.in-Ok.parts.0 c.in-Ok.parts.1 c.subcommand.ensures
    (IfOk-at_ok (λ (x : Command). (fields_of x).has_globals ≡ false) c.in-Ok.ensures.1 c.requires.none_global)
    all one (IfOk-at_ok (λ (x : Command). app_of x ≡ all) c.in-Ok.ensures.0 above)
    (IfOk-at_ok (λ (x : Command). app_of x ≡ one) c.in-Ok.ensures.1 made)

pub returns-in-Ok-clause-none_global : goal.returns-in-Ok-clause-none_global
returns-in-Ok-clause-none_global c =
    none_in_command c.subcommand.result c.in-Ok.parts.0 c.in-Ok.parts.1 c.subcommand.ensures
    (IfOk-at_ok (λ (x : Command). (fields_of x).has_globals ≡ false) c.in-Ok.ensures.0 c.requires.above_none_global)
    (IfOk-at_ok (λ (x : Command). (fields_of x).has_globals ≡ false) c.in-Ok.ensures.1 c.requires.none_global)
