use Rattle.ix_disk.specs.Image.{bytes_in}
use Rattle.ix_log.proofs.Windows.{read_held, read_rest}
use Rattle.ix_log.proofs.window.Window.read.Goals as goal

pub returns-then-n-buf-clause-bytes : goal.returns-then-n-buf-clause-bytes
returns-then-n-buf-clause-bytes g c = λ image told on.
    let file = bytes_in image c.args.file in
    read_held c.args.at file c.ahead-ahead.result.now (c.ahead-ahead.ensures file on) c.min-n.result c.args.buf.now
    c.copy_from_slice.new.self c.min-n.ensures c.if-n-buf.true c.copy_from_slice.ensures.after

pub returns-clause-bytes : goal.returns-clause-bytes
returns-clause-bytes g c = λ image told on.
    let file = bytes_in image c.args.file in
    read_rest c.args.at file c.ahead-ahead.result.now (c.ahead-ahead.ensures file on) c.min-n.result c.in_ok-more.more c.args.buf.now
    c.copy_from_slice.new.self c.read.new.buf
    c.min-n.ensures c.if-n-buf.false c.copy_from_slice.ensures.after (c.in_ok-more.ensures.bytes image told)
