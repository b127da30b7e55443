use Rattle.std.proofs.Common.{◌≡◌, take}
use Rattle.ix_transforms.specs.Seds.{changed_text}
use Rattle.ix_transforms.proofs.seds.change_all.Given as goal

abbrev pub invariant-loop-sed : goal.invariant-loop-sed
invariant-loop-sed l = l.now ≡ changed_text (take l.sed-index l.sed-items) l.fn.text
