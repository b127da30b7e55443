use Rattle.std.proofs.Common.{◌/◌, length}
use Rattle.ix_base.proofs.ToldLemmas.{began-either}
use Rattle.ix_net.proofs.mem_link.begin.Goals as goal

pub returns : goal.returns
returns c =
    began-either c.extend.result (length c.args.piece.now / 2) c.args.piece.now c.args.bytes.now c.extend.new.self
    c.extend.ensures.ok c.extend.ensures.err
