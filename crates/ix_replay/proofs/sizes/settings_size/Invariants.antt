use Rattle.std.proofs.Common.{◌≡◌, ◌+◌, ◌-◌, ◌^◌, length, take, min}
use Rattle.std.specs.List.{sum_by}
use Rattle.ix_items.specs.Spelling.{kept_bytes}
use Rattle.ix_items.specs.declared.items.Kept.{Kept}
use Rattle.ix_replay.proofs.sizes.settings_size.Given as goal

abbrev pub invariant-loop-one : goal.invariant-loop-one
invariant-loop-one l = l.size ≡ min (5 + sum_by (λ (k : Kept). length (kept_bytes k)) (take l.one-index l.kept)) (2 ^ 64 - 1)
