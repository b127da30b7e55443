use Rattle.std.proofs.Common.{◌≡◌, ◌++◌, take, drop}
use Rattle.ix_life.specs.declared.views.IndexView.{IndexView}
use Rattle.ix_catalog.specs.Lists.{find, change}
use Rattle.ix_catalog.specs.Shelves.{view_name}
use Rattle.ix_catalog.proofs.viewing.place_of.Given as goal

abbrev pub invariant-loop-at : goal.invariant-loop-at
invariant-loop-at l = record {
  found : find view_name l.name (drop l.at l.indexes) ≡ find view_name l.name l.indexes;
  changed : (f : IndexView → IndexView) → take l.at l.indexes
      ++ change view_name l.name f (drop l.at l.indexes) ≡ change view_name l.name f l.indexes;
}
