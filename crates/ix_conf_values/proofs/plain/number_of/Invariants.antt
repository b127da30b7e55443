use Rattle.std.proofs.Common.{◌≡◌, ◌<◌, ◌^◌, drop}
use Rattle.ix_conf_values.specs.Plain.{more_digits}
use Rattle.ix_conf_values.proofs.plain.number_of.Given as goal

abbrev pub invariant-loop-byte : goal.invariant-loop-byte
invariant-loop-byte l = record {
  digits : more_digits l.number (drop l.byte-index l.text) ≡ more_digits 0 l.text;
  below : l.number < 10 ^ l.byte-index;
}
