use Rattle.indexd_cli.specs.Table.{preview}
use Rattle.indexd_cli.proofs.table.preview.Goals as goal

pub returns-clause-app : goal.returns-clause-app
unfolding preview
returns-clause-app c =
    c.with_arg.ensures.app _ _ c.flag.ensures.rule
    (c.with_option-made-4.ensures.app _
    (c.with_option-made-3.ensures.app _
    (c.with_option-made-2.ensures.app _
    (c.with_option-made.ensures.app _ c.new_command-made.ensures.app))))
