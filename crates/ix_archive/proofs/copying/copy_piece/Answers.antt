use Rattle.ix_disk.specs.Image.{bytes_in}
use Rattle.ix_archive.proofs.Pieces.{piece_moves, piece_is}
use Rattle.ix_archive.proofs.copying.copy_piece.Goals as goal

pub returns-clause-moved : goal.returns-clause-moved
returns-clause-moved g c =
    piece_moves c.args.from c.args.to c.args.at c.in_ok-n.n _ _ _ _ c.requires.apart c.in_ok-n.ensures.same c.in_ok-write_at.ensures.written
    (λ image told. piece_is c.in_ok-n.n _ c.args.at (bytes_in image c.args.from) c.args.buf.now _ (c.in_ok-n.ensures.bytes image told))
