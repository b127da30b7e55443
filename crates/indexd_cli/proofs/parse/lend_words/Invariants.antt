use Rattle.std.proofs.Common.{◌≡◌, take}
use Rattle.clap.specs.Walk.{texts}
use Rattle.indexd_cli.proofs.parse.lend_words.Given as goal

abbrev pub invariant-loop-word : goal.invariant-loop-word
invariant-loop-word l = texts l.lent.items ≡ take l.word-index l.words
