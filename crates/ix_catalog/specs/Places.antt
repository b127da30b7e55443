-- Where an index stands among the indexes of a store.
use Rattle.std.specs.Prelude.{◌≡◌, ◌<◌, ℕ, List, length, Some, None, slice_get, slice_set}
use Rattle.ix_life.specs.declared.views.IndexView.{IndexView}
use Rattle.ix_catalog.specs.Lists.{find, change}
use Rattle.ix_catalog.specs.Shelves.{view_name}

-- it is the one of this name
pub record IsPlaceOf (name : List ℕ) (indexes : List IndexView) (at : ℕ) : Type 0 where
  pub within : at < length indexes
  pub found : find view_name name indexes ≡ slice_get indexes at
  pub changed : (f : IndexView → IndexView) (v : IndexView) → slice_get indexes at ≡ Some v →
      change view_name name f indexes ≡ slice_set indexes at (f v)

-- no index has this name
pub record HasNone (name : List ℕ) (indexes : List IndexView) : Type 0 where
  pub found : find view_name name indexes ≡ None
  pub changed : (f : IndexView → IndexView) → change view_name name f indexes ≡ indexes
