use Rattle.std.proofs.Common.{rules, ◌≡◌, ◌∙◌, ap, sym, true, cond, Some, None}
use Rattle.std.specs.Result.{result_ok}
use Rattle.std.specs.Str.Parse.{signed_digits_value}
use Rattle.std.proofs.lemmas.Result.{Ok-from_Ok_iff}
use Rattle.indexd_cli.specs.Values.{is_time, seconds_of}
use Rattle.indexd_cli.proofs.ValueLemmas.{time_parses}
use Rattle.indexd_cli.proofs.values.seconds_of.Goals as goal

pub returns : goal.returns
unfolding seconds_of
returns c =
    let yes : is_time c.args.text.now ≡ true = search rules in
    let r = Ok-from_Ok_iff c.parse.result _ _ c.parse.ensures.value.0 (time_parses c.args.text.now yes) in
    c.ok.ensures.value ∙ ap result_ok r ∙ ap (λ b. cond b (Some (signed_digits_value 10 c.args.text.now)) None) (sym yes)
