use Rattle.ix_base.proofs.ToldLemmas.{then_written}
use Rattle.ix_export.proofs.line_writer.put_middle.Goals as goal

pub returns : goal.returns
returns g c =
    then_written (then_written (then_written (then_written c.in_ok-put_tabbed.ensures.written c.in_ok-put_tabbed-2.ensures.written)
    c.in_ok-put_tabbed-3.ensures.written) c.in_ok-put_tabbed-4.ensures.written) c.in_ok-put.ensures.written
