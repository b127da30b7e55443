-- A set gives an index the limits that the settings give it.
use Rattle.std.proofs.Common.{◌≡◌, ℕ, false, List, refl, sym, ap, ◌∙◌}
use Rattle.std.specs.Prelude.{Option, unwrap_or}
use Rattle.ix_items.specs.declared.items.Kept.{Kept}
use Rattle.ix_life.specs.Stanzas.{is_volume, is_index}
use Rattle.ix_life.specs.declared.limits.Limits.{Limits}
use Rattle.ix_life.specs.declared.sets.LimitSet.{LimitSet}
use Rattle.ix_life.proofs.RetiredLemmas.{retired_limits}
use Rattle.ix_model.specs.Given.{entries, limits}
use Rattle.ix_model.proofs.Named.{by_test}
use Rattle.ix_bounds.specs.Shelving.{AreSettings, limits_for}

pub limits_same : (force : List Kept) (set : LimitSet) (name : List ℕ) → AreSettings force set → is_volume name ≡ false →
    limits_for set name ≡ limits force name
limits_same force set name h v =
    ap (λ (o : Option Limits). unwrap_or o set.retired) (h.set_is.limits.limits name)
    ∙ by_test (is_index (entries force) name)
    (λ t. rw t refl)
    (λ t. rw t (h.set_is.limits.retired ∙ sym (retired_limits (entries force) h.stanzas name v t)))
