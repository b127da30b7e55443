-- What a command is to which a word or another command was added.
use Rattle.std.proofs.Common.{◌≡◌, ◌∙◌, Bool, false, Result, Ok, Err, ap, ap₂}
use Rattle.std.specs.Prelude.{◌||◌, IfOk}
use Rattle.clap.specs.Words.{AddsArg, AddsSubcommand, App, Rule, app_of, rule_of, with_rule, with_subcommand}
use Rattle.clap.specs.declared.builder.arg.Arg.{Arg}
use Rattle.clap.specs.declared.builder.command.Command.{Command}
use Rattle.clap.specs.declared.builder.command.Command.TheViews.{out-Command as fields_of}
use Rattle.indexd_cli.specs.Table.{with_one}

pub arg_added : {E : Type 0} (result : Result Command E) (command : Command) (arg : Arg) →
    IfOk result (λ (c : Command). AddsArg command arg c) → arg.global ≡ false → (app : App) (rule : Rule) → rule_of arg ≡ rule →
    app_of command ≡ app → IfOk result (λ (c : Command). app_of c ≡ with_rule app rule)
arg_added (Ok c) command arg adds local app rule is are = adds.shape local ∙ ap₂ with_rule are is
arg_added (Err e) command arg adds local app rule is are = tt

pub none_in_arg : {E : Type 0} (result : Result Command E) (command : Command) (arg : Arg) →
    IfOk result (λ (c : Command). AddsArg command arg c) → (fields_of command).has_globals ≡ false → arg.global ≡ false →
    IfOk result (λ (c : Command). (fields_of c).has_globals ≡ false)
none_in_arg (Ok c) command arg adds none local = adds.globals ∙ ap₂ (λ (a b : Bool). a || b) none local
none_in_arg (Err e) command arg adds none local = tt

pub command_added : {E : Type 0} (result : Result Command E) (above one : Command) →
    IfOk result (λ (c : Command). AddsSubcommand above one c) → (fields_of one).has_globals ≡ false → (all shown : App) →
    app_of above ≡ all → app_of one ≡ shown → IfOk result (λ (c : Command). app_of c ≡ with_one all shown)
command_added (Ok c) above one adds none all shown is are = adds.shape none ∙ ap₂ with_subcommand is (ap (λ (a : App). a.top) are)
command_added (Err e) above one adds none all shown is are = tt

pub none_in_command : {E : Type 0} (result : Result Command E) (above one : Command) →
    IfOk result (λ (c : Command). AddsSubcommand above one c) → (fields_of above).has_globals ≡ false →
    (fields_of one).has_globals ≡ false → IfOk result (λ (c : Command). (fields_of c).has_globals ≡ false)
none_in_command (Ok c) above one adds none free = adds.globals ∙ ap₂ (λ (a b : Bool). a || b) none free
none_in_command (Err e) above one adds none free = tt
