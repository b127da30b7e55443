use Rattle.std.proofs.Common.{◌≡◌, ◌+◌, length, take}
use Rattle.std.specs.List.{sum_by}
use Rattle.ix_items.specs.Spelling.{kept_bytes}
use Rattle.ix_items.specs.declared.items.Kept.{Kept}
use Rattle.ix_catalog.specs.Measures.{capped}
use Rattle.ix_bounds.proofs.totals.settings_size.Given as goal

abbrev pub invariant-loop-one : goal.invariant-loop-one
invariant-loop-one l = l.size ≡ capped (5 + sum_by (λ (k : Kept). length (kept_bytes k)) (take l.one-index l.kept))
