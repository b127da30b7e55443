use Rattle.std.proofs.Common.{◌∙◌, sym, ap}
use Rattle.ix_conf.proofs.LineLemmas.{lines_cut, lines_by_cut}
use Rattle.ix_conf.proofs.lines.first_line.Goals as goal

pub returns-in-Some-clause-lines : goal.returns-in-Some-clause-lines
returns-in-Some-clause-lines c =
    let cut = lines_cut c.args.text.now ∙ ap (lines_by_cut c.args.text.now) (sym c.in-Some.ensures.parts) in
    rw c.without_return.ensures.value cut

pub returns-in-None-clause-lines : goal.returns-in-None-clause-lines
returns-in-None-clause-lines c = lines_cut c.args.text.now ∙ ap (lines_by_cut c.args.text.now) (sym c.in-None.ensures.parts)
