use Rattle.std.proofs.Common.{◌≡◌, ◌++◌, drop}
use Rattle.std.specs.Option.{option_map}
use Rattle.ix_conf_values.specs.Formats.{directives, directives_of}
use Rattle.ix_conf_values.proofs.formats.read_directives.Given as goal

abbrev pub invariant-loop-byte : goal.invariant-loop-byte
invariant-loop-byte l =
    option_map (λ ds. l.found.items ++ ds) (directives l.place (drop l.byte-index l.text)) ≡ directives_of l.text
