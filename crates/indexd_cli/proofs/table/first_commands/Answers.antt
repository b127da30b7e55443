use Rattle.indexd_cli.specs.Table.{btool, feed, first_commands}
use Rattle.indexd_cli.proofs.table.first_commands.Goals as goal

pub returns-clause-app : goal.returns-clause-app
unfolding first_commands btool feed
returns-clause-app c =
    let previews = c.with_command-made.ensures.app _ _ c.program.ensures.app c.preview.ensures.app in
    let btools = c.with_command-made-2.ensures.app _ _ previews c.one_word.ensures.app in
    c.with_command.ensures.app _ _ btools c.new_command.ensures.app
