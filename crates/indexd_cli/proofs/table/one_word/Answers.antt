use Rattle.indexd_cli.proofs.table.one_word.Goals as goal

pub returns-clause-app : goal.returns-clause-app
returns-clause-app c = c.with_arg.ensures.app _ _ c.word.ensures.rule c.new_command.ensures.app
