use Rattle.std.proofs.Common.{◌≡◌, ◌++◌, take}
use Rattle.ix_props.proofs.settings.add_seds.Given as goal

abbrev pub invariant-loop-sed : goal.invariant-loop-sed
invariant-loop-sed l = l.list ≡ l.fn.list ++ take l.sed-index l.seds
