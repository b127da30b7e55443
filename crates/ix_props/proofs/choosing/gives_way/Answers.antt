use Rattle.std.proofs.Common.{◌≡◌, Some, sym, ap, ◌∙◌}
use Rattle.std.specs.Ordering.{is_gt}
use Rattle.ix_props.specs.Ranking.{found}
use Rattle.ix_props.proofs.choosing.gives_way.Goals as goal

pub returns-in-Some : goal.returns-in-Some
returns-in-Some c =
    let there : found c.args.nearest.now c.args.candidate.now.entry.now.key ≡ Some c.in-Some.other.now =
    rw c.as_slice-key.ensures at (sym c.in-Some.ensures.value) in
    rw there (c.is_gt.ensures ∙ ap (λ o. is_gt o) (rw (c.as_slice.ensures, c.as_slice-in-Some.ensures) at c.compare-order.ensures))
