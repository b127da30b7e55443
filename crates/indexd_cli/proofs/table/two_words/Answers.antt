use Rattle.indexd_cli.proofs.table.two_words.Goals as goal

pub returns-clause-app : goal.returns-clause-app
returns-clause-app c = c.with_arg.ensures.app _ _ c.word.ensures.rule c.one_word.ensures.app
