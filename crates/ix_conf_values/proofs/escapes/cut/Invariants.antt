use Rattle.std.proofs.Common.{◌≡◌, ◌++◌, false, take, drop}
use Rattle.std.specs.Option.{option_map}
use Rattle.ix_conf_values.specs.Escapes.{cut}
use Rattle.ix_conf_values.proofs.escapes.cut.Given as goal

abbrev pub invariant-loop-at : goal.invariant-loop-at
invariant-loop-at l = option_map (λ found. (take l.at l.text ++ found.0, found.1)) (cut l.escaped (drop l.at l.text)) ≡ cut false l.text
