use Rattle.indexd_cli.specs.Table.{export}
use Rattle.indexd_cli.proofs.table.export.Goals as goal

pub returns-clause-app : goal.returns-clause-app
unfolding export
returns-clause-app c = c.with_option.ensures.app _ (c.with_option-made.ensures.app _ c.one_word-made.ensures.app)
