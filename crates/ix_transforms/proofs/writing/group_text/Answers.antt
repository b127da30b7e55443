use Rattle.std.proofs.Common.{◌-◌, length, arith, ◌∙◌, sym}
use Rattle.ix_transforms.proofs.TextLemmas.{span-within}
use Rattle.ix_transforms.proofs.writing.group_text.Goals as goal

pub slice_bounds-result-count : goal.slice_bounds-result-count
slice_bounds-result-count c =
    let lies = span-within 0 (length c.args.groups.now.text.now) (c.args.number - 1) c.args.groups.now.spans.now _ c.requires
    (sym c.span_at.ensures ∙ c.in-Some.is) in
    omega arith

pub slice_bounds-result-start : goal.slice_bounds-result-start
slice_bounds-result-start c =
    let lies = span-within 0 (length c.args.groups.now.text.now) (c.args.number - 1) c.args.groups.now.spans.now _ c.requires
    (sym c.span_at.ensures ∙ c.in-Some.is) in
    omega arith

pub slice_bounds-result-end : goal.slice_bounds-result-end
slice_bounds-result-end c =
    let lies = span-within 0 (length c.args.groups.now.text.now) (c.args.number - 1) c.args.groups.now.spans.now _ c.requires
    (sym c.span_at.ensures ∙ c.in-Some.is) in
    omega arith
