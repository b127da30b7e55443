use Rattle.std.proofs.Common.{◌≡◌, ◌<◌, take}
use Rattle.std.specs.Prelude.{fold}
use Rattle.ix_manifest.specs.Keys.{mixed}
use Rattle.ix_manifest.proofs.keys.mix_all.Given as goal

abbrev pub invariant-loop-byte : goal.invariant-loop-byte
invariant-loop-byte l = record {
  value : l.sum ≡ fold mixed l.first (take l.byte-index l.text);
  small : l.sum < 4294967291;
}
