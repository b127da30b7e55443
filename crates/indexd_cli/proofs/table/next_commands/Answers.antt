use Rattle.indexd_cli.specs.Table.{buckets, next_commands}
use Rattle.indexd_cli.proofs.table.next_commands.Goals as goal

pub returns-clause-app : goal.returns-clause-app
unfolding next_commands buckets
returns-clause-app c =
    let serves = c.with_command-made.ensures.app _ _ c.first_commands.ensures.app c.serve.ensures.app in
    let monitors = c.with_command-made-2.ensures.app _ _ serves c.monitor.ensures.app in
    c.with_command.ensures.app _ _ monitors c.new_command.ensures.app
