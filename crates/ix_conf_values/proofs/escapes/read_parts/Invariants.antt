use Rattle.std.proofs.Common.{◌≡◌, ◌++◌, false, drop}
use Rattle.std.specs.Option.{option_map}
use Rattle.ix_conf_values.specs.Escapes.{parts}
use Rattle.ix_conf_values.proofs.escapes.read_parts.Given as goal

abbrev pub invariant-loop-byte : goal.invariant-loop-byte
invariant-loop-byte l = option_map (λ rest. l.found ++ rest) (parts l.escaped (drop l.byte-index l.text)) ≡ parts false l.text
