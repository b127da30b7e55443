use Rattle.std.proofs.Common.{◌∙◌, ℕ, List, [], true, false, sym, ap}
use Rattle.std.specs.Option.{option_copied}
use Rattle.std.proofs.lemmas.Result.{IfOk-weaker}
use Rattle.ix_conf.specs.Lines.{physical_lines, logical_lines, joined}
use Rattle.ix_conf.specs.Grammar.{entries_of}
use Rattle.ix_conf.specs.Reading.{lines_behind}
use Rattle.ix_conf.proofs.LineLemmas.{begun_line}
use Rattle.ix_conf.proofs.lines.read_line.Goals as goal

pub returns-clause-entries : goal.returns-clause-entries
returns-clause-entries c =
    let first = c.first_line.result.0.now in
    let others = lines_behind (option_copied c.first_line.result.1) in
    IfOk-weaker c.join.result _ _ (λ found h stanza number.
    let begun = begun_line number first others (sym c.is_comment.ensures ∙ c.if-is_comment.false) in
    let lines = ap (logical_lines false number) c.first_line.ensures.lines ∙ begun
    ∙ ap (λ (l : List (List ℕ)). joined number [] (logical_lines true number l)) (sym c.first_line.ensures.lines)
    ∙ ap (λ (line : List ℕ). joined number line (logical_lines true number (physical_lines c.args.text.now))) (sym c.clear.ensures) in
    ap (entries_of stanza) (lines ∙ h number number))
    c.join.ensures.joined
