use Rattle.std.proofs.Common.{rules, ap, sym, ◌∙◌}
use Rattle.clap.specs.Walk.{texts}
use Rattle.std.specs.Prelude.{option_map}
use Rattle.indexd_cli.specs.Orders.{order_in}
use Rattle.indexd_cli.specs.Shown.{shown}
use Rattle.indexd_cli.proofs.ParseLemmas.{refused_is, taken_is}
use Rattle.indexd_cli.proofs.parse.read_words.Goals as goal

pub returns-in_err-matches-clause-usage : goal.returns-in_err-matches-clause-usage
returns-in_err-matches-clause-usage c = λ is. refused_is (texts c.args.words.now) (c.parse.ensures.usage (search rules))

pub returns-in-Some-clause-asks : goal.returns-in-Some-clause-asks
returns-in-Some-clause-asks c =
    taken_is (texts c.args.words.now) c.in_ok-matches.ensures.taken ∙ sym (ap order_in c.in_ok-matches.ensures.rows)
    ∙ sym c.in-Some.ensures

pub returns-clause-usage : goal.returns-clause-usage
returns-clause-usage c = λ is.
    taken_is (texts c.args.words.now) c.in_ok-matches.ensures.taken ∙ sym (ap order_in c.in_ok-matches.ensures.rows)
    ∙ sym c.order_in.ensures ∙ ap (option_map shown) c.in-None.is
