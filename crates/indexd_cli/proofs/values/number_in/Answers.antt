use Rattle.std.proofs.Common.{rules, ◌∙◌, sym, ◌≡◌, ◌<◌, ◌^◌, true}
use Rattle.indexd_cli.specs.Values.{is_number}
use Rattle.indexd_cli.proofs.ValueLemmas.{too_large}
use Rattle.indexd_cli.proofs.values.number_in.Goals as goal

pub returns-in_err-number-clause-value : goal.returns-in_err-number-clause-value
returns-in_err-number-clause-value c =
    let number : is_number c.args.text.now ≡ true = search rules in
    let most_fits : c.args.most < 2 ^ 64 = search rules in
    c.from_residual.ensures ∙ sym (too_large c.args.text.now c.args.least c.args.most c.parse.result number most_fits
    c.parse.ensures.value.0 (sym c.ok.ensures.value ∙ c.in_err-number.was))
