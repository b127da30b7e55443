use Rattle.std.proofs.Common.{◌≡◌, take}
use Rattle.ix_transforms.proofs.seds.prepare_seds.Given as goal

abbrev pub invariant-loop-sed : goal.invariant-loop-sed
invariant-loop-sed l = l.prepared ≡ take l.sed-index l.sed-items
