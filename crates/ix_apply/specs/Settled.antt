-- Settings that set nothing are no cause that no state comes of a log.
use Rattle.std.proofs.Common.{refl}
use Rattle.std.specs.Prelude.{List, []}
use Rattle.ix_items.specs.declared.items.Item.TheVariants.{Settings}
use Rattle.ix_items.specs.declared.items.Kept.{Kept}
use Rattle.ix_recovery.specs.Recalled.{GivesNone}

pub none_set_is_good : (force : List Kept) → GivesNone force (Settings []) → ⊥
none_set_is_good force bad = bad.some refl
