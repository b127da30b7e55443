use Rattle.std.proofs.Common.{◌∙◌, ◌++◌, ◌-◌, ap, sym, drop, take, length}
use Rattle.ix_lines.specs.Moments.{moments_of}
use Rattle.ix_lines.proofs.Feeding.{left-is}
use Rattle.ix_lines.proofs.SeekLemmas.{rest-is}
use Rattle.ix_lines.proofs.pending.Pending.drop_first.Goals as goal

pub returns-clause-left : goal.returns-clause-left
returns-clause-left c =
    let n = c.args.n in
    let all = c.as_slice-bytes.result.now in
    let rest = c.in_ok-extend.ensures.ok ∙ ap (λ l. l ++ take (length all - n) (drop n all)) c.empty-rest.ensures ∙ rest-is all n
    ∙ ap (drop n) c.as_slice-bytes.ensures in
    sym (left-is n c.args.self.now.bytes _ (moments_of c.args.self.now.runs.items) _ rest c.drop_moments.ensures)

pub returns-clause-bytes : goal.returns-clause-bytes
returns-clause-bytes c =
    let n = c.args.n in
    let all = c.as_slice-bytes.result.now in
    c.in_ok-extend.ensures.ok ∙ ap (λ l. l ++ take (length all - n) (drop n all)) c.empty-rest.ensures ∙ rest-is all n
    ∙ ap (drop n) c.as_slice-bytes.ensures
