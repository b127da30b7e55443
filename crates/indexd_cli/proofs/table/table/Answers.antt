use Rattle.indexd_cli.specs.Table.{tick, selftest, first_commands, next_commands, index_commands, table}
use Rattle.indexd_cli.proofs.table.table.Goals as goal

pub returns-clause-app : goal.returns-clause-app
unfolding table first_commands next_commands index_commands tick selftest
returns-clause-app c =
    let ticks = c.with_command-made.ensures.app _ _ c.index_commands.ensures.app c.new_command.ensures.app in
    c.with_command.ensures.app _ _ ticks c.two_words.ensures.app
