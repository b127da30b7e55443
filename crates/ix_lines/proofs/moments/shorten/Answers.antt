use Rattle.std.proofs.Common.{◌∙◌, ◌<◌, length, arith, rules, tests}
use Rattle.ix_lines.proofs.MomentLemmas.{no_run, shortened, get_or-any}
use Rattle.ix_lines.proofs.moments.shorten.Goals as goal

pub returns-then-not-is_empty : goal.returns-then-not-is_empty
returns-then-not-is_empty c =
    let some : 0 < length c.args.runs.now.items = search (tests, rules) in
    shortened c.args.runs.now.items c.args.n c.index_mut.result.now some
    (c.index_mut.ensures.value ∙ get_or-any c.args.runs.now.items 0 c.index_mut.result.now no_run some) (omega (arith, c.requires some))
