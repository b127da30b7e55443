use Rattle.std.proofs.Common.{◌≡◌, ◌++◌, take, drop}
use Rattle.ix_life.specs.declared.views.IndexView.{IndexView}
use Rattle.ix_catalog.specs.Lists.{insert}
use Rattle.ix_catalog.specs.Shelves.{view_name}
use Rattle.ix_bounds.proofs.shelving.place_for.Given as goal

abbrev pub invariant-loop-at : goal.invariant-loop-at
invariant-loop-at l = (v : IndexView) → v.name ≡ l.name → take l.at l.list
    ++ insert view_name v (drop l.at l.list) ≡ insert view_name v l.list
