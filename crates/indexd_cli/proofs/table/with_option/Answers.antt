use Rattle.indexd_cli.proofs.table.with_option.Goals as goal

pub returns-clause-app : goal.returns-clause-app
returns-clause-app c = λ app made. c.with_arg.ensures.app app _ c.option.ensures.rule made
