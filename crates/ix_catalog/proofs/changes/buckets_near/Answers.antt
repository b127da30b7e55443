use Rattle.std.proofs.Common.{◌≡◌, get_or, ap, sym, ◌∙◌}
use Rattle.ix_life.specs.declared.views.IndexView.{IndexView}
use Rattle.ix_catalog.proofs.Finding.{equal_names, at_place}
use Rattle.ix_catalog.proofs.changes.buckets_near.Goals as goal

pub returns-then-eq : goal.returns-then-eq
returns-then-eq c =
    let indexes = c.args.indexes.now in
    let view = c.index-indexes-place.result in
    let same = sym c.as_slice.ensures ∙ equal_names _ _ (sym c.eq.ensures ∙ c.if-eq.true) ∙ c.as_slice-then-place-indexes.ensures in
    let at : (get_or indexes c.args.place view).name ≡ c.args.index.now = ap (λ (x : IndexView). x.name) (sym c.index-indexes-place.is)
    ∙ same in
    c.as_slice-then-eq.ensures ∙ ap (λ (x : IndexView). x.buckets) c.index-indexes-place.is
    ∙ sym (at_place indexes c.args.place view c.args.index.now c.requires c.if-place-indexes.true at)
