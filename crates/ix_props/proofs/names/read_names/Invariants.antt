use Rattle.std.proofs.Common.{◌≡◌, ◌++◌, drop}
use Rattle.ix_props.specs.Names.{names, names_in, pieces}
use Rattle.ix_props.proofs.NameLemmas.{with_front}
use Rattle.ix_props.proofs.names.read_names.Given as goal

abbrev pub invariant-loop-byte : goal.invariant-loop-byte
invariant-loop-byte l = l.found ++ names_in (with_front l.piece (pieces (drop l.byte-index l.text))) ≡ names l.text
