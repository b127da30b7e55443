use Rattle.std.proofs.Common.{◌≡◌, ◌++◌, take, drop, map}
use Rattle.ix_transforms.specs.Seds.{swapped}
use Rattle.ix_transforms.proofs.swapping.swap_bytes.Given as goal

abbrev pub invariant-loop-at : goal.invariant-loop-at
invariant-loop-at l = l.items.items ≡ map (swapped l.from l.to) (take l.at l.initial.items.items) ++ drop l.at l.initial.items.items
