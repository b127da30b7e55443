use Rattle.std.proofs.Common.{◌≡◌, ◌++◌, map, take}
use Rattle.ix_conf_values.specs.declared.escapes.Part.TheVariants.{Byte}
use Rattle.ix_conf_values.proofs.escapes.add_bytes.Given as goal

abbrev pub invariant-loop-byte : goal.invariant-loop-byte
invariant-loop-byte l = l.found ≡ l.initial.found ++ map (λ b. Byte b) (take l.byte-index l.bytes)
