use Rattle.std.proofs.Common.{◌≡◌, drop}
use Rattle.ix_props.specs.Kinds.{behind}
use Rattle.ix_props.proofs.kinds.behind.Given as goal

abbrev pub invariant-loop-byte : goal.invariant-loop-byte
invariant-loop-byte l = behind (drop l.byte-index l.prefix) l.rest ≡ behind l.prefix l.text
