use Rattle.std.proofs.Common.{ap, sym, ◌∙◌}
use Rattle.clap.specs.Words.{App, fault_of, is_simple, is_simple_and_free, subcommand_of}
use Rattle.clap.specs.Walk.{texts}
use Rattle.indexd_cli.proofs.TableLemmas.{simple, simple_and_free}
use Rattle.indexd_cli.proofs.ParseLemmas.{err_or, not_memory}
use Rattle.indexd_cli.proofs.parse.parse.Goals as goal

pub returns-in-Ok-try_get_matches_from-clause-taken : goal.returns-in-Ok-try_get_matches_from-clause-taken
returns-in-Ok-try_get_matches_from-clause-taken c =
    let same = c.in-Ok.ensures.app in
    ap (λ (a : App). fault_of a (texts c.args.words.now)) (sym same)
    ∙ c.in-Ok-try_get_matches_from.ensures.kinds (ap is_simple_and_free same ∙ simple_and_free)

pub returns-in-Ok-try_get_matches_from-clause-rows : goal.returns-in-Ok-try_get_matches_from-clause-rows
returns-in-Ok-try_get_matches_from-clause-rows c =
    let same = c.in-Ok.ensures.app in
    (c.in-Ok-try_get_matches_from.ensures.matches (ap is_simple same ∙ simple)).1
    ∙ ap (λ (a : App). subcommand_of a (texts c.args.words.now)) same

pub returns-in-Err-clause-usage : goal.returns-in-Err-clause-usage
returns-in-Err-clause-usage c = λ is none.
    let same = c.in-Ok.ensures.app in
    not_memory _ c.in-Err.error (c.in-Err.ensures.kinds (ap is_simple_and_free same ∙ simple_and_free))
    (c.refusal_of.ensures.0 (ap (err_or c.refusal_of.result) is))
    (ap (λ (a : App). fault_of a (texts c.args.words.now)) same ∙ none)
