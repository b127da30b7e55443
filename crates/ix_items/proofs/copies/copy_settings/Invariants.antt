use Rattle.std.proofs.Common.{◌≡◌, take}
use Rattle.ix_items.proofs.copies.copy_settings.Given as goal

abbrev pub invariant-loop-one : goal.invariant-loop-one
invariant-loop-one l = l.copies ≡ take l.one-index l.kept
