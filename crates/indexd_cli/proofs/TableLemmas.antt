-- The table of commands, written out, is one that `clap` reads by its definition.
use Rattle.std.proofs.Common.{◌≡◌, true, refl}
use Rattle.std.specs.Prelude.{⊤}
use Rattle.clap.specs.Words.{is_simple, is_simple_and_free}
use Rattle.clap.proofs.OnLiterals.{clap_on_literals}
use Rattle.indexd_cli.specs.Table.{preview, btool, feed, serve, monitor, buckets, export, roll, thaw, tick, selftest, program, table}

-- what a proof unfolds to compute with the table
unfoldable pub the_table : ⊤
unfolding preview btool feed serve monitor buckets export roll thaw tick selftest program table
the_table = tt

pub simple : is_simple table ≡ true
unfolding clap_on_literals the_table
simple = refl

pub simple_and_free : is_simple_and_free table ≡ true
unfolding clap_on_literals the_table
simple_and_free = refl
