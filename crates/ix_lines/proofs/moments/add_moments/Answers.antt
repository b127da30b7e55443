use Rattle.std.proofs.Common.{rules, w64, ◌∙◌, ◌-◌, ◌<◌, sym, ap, length, arith}
use mir.Val.{SFits}
use Rattle.ix_lines.proofs.MomentLemmas.{no_run, last-grows, get_or-any, same-words}
use Rattle.ix_lines.proofs.moments.add_moments.Goals as goal

pub returns-then-index-count : goal.returns-then-index-count
returns-then-index-count c =
    let runs = c.args.runs.now.items in
    let i = c.len-n.result - 1 in
    let near : i < length runs = omega arith in
    let last = c.index_mut.ensures.value ∙ get_or-any runs i c.index_mut.result.now no_run near in
    let read = c.index.ensures ∙ get_or-any runs i c.index.result.now no_run near in
    let fits : SFits w64 c.index.result.now.moment = search rules in
    let same = same-words c.index.result.now.moment c.args.moment fits c.ranges.moment c.if-index-moment.true in
    last-grows runs i c.args.count c.index_mut.result.now c.args.moment (omega arith) last
    (ap (λ r. r.moment) last ∙ ap (λ r. r.moment) (sym read) ∙ same)
