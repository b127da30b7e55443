use Rattle.indexd_cli.specs.Table.{roll, thaw, index_commands}
use Rattle.indexd_cli.proofs.table.index_commands.Goals as goal

pub returns-clause-app : goal.returns-clause-app
unfolding index_commands roll thaw
returns-clause-app c =
    let exports = c.with_command-made.ensures.app _ _ c.next_commands.ensures.app c.export.ensures.app in
    let rolls = c.with_command-made-2.ensures.app _ _ exports c.one_word.ensures.app in
    c.with_command.ensures.app _ _ rolls c.two_words.ensures.app
