use Rattle.std.proofs.Common.{◌≡◌, ◌++◌, drop}
use Rattle.std.specs.Option.{option_map}
use Rattle.ix_conf_values.specs.Escapes.{plain_bytes}
use Rattle.ix_conf_values.proofs.escapes.plain_bytes.Given as goal

abbrev pub invariant-loop-part : goal.invariant-loop-part
invariant-loop-part l = option_map (λ rest. l.bytes ++ rest) (plain_bytes (drop l.part-index l.parts)) ≡ plain_bytes l.parts
