use Rattle.std.proofs.Common.{◌∙◌}
use Rattle.ix_bounds.proofs.Steps.{stays_listed, put_at}
use Rattle.ix_bounds.proofs.shelving.add_configured.Goals as goal

pub returns-then-is_listed : goal.returns-then-is_listed
returns-then-is_listed c =
    stays_listed c.args.list.now.items c.deref.result.now c.args.index.now c.as_slice.result.now c.is_listed.result
    c.deref.ensures.value c.as_slice.ensures c.is_listed.ensures c.if-is_listed.true

pub returns : goal.returns
returns c =
    c.in_ok-insert.ensures.items
    ∙ put_at c.args.list.now.items c.deref.result.now c.deref-2.result.now c.args.index.now c.as_slice.result.now c.as_slice-2.result.now
    c.is_listed.result
    c.place_for-at.result c.in_ok-fresh_view.field-0 c.deref.ensures.value c.deref-2.ensures.value c.as_slice.ensures c.as_slice-2.ensures
    c.is_listed.ensures c.if-is_listed.false c.in_ok-fresh_view.ensures c.place_for-at.ensures.inserted
