use Rattle.indexd_cli.specs.Table.{monitor}
use Rattle.indexd_cli.proofs.table.monitor.Goals as goal

pub returns-clause-app : goal.returns-clause-app
unfolding monitor
returns-clause-app c =
    c.with_arg.ensures.app _ _ c.flag.ensures.rule c.new_command.ensures.app
