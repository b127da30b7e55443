use Rattle.indexd_cli.specs.Table.{serve}
use Rattle.indexd_cli.proofs.table.serve.Goals as goal

pub returns-clause-app : goal.returns-clause-app
unfolding serve
returns-clause-app c = c.with_option.ensures.app _ (c.with_option-made.ensures.app _ c.new_command-made.ensures.app)
