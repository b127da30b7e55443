use Rattle.std.proofs.Common.{◌∙◌, arith}
use Rattle.ix_disk.specs.Image.{bytes_in}
use Rattle.ix_bucket.proofs.Shown.{no_record, empty_current, read_current, piece_shows}
use Rattle.ix_bucket.proofs.ahead.Reader.fetch.Goals as goal

pub returns-in_err-room-clause-current : goal.returns-in_err-room-clause-current
returns-in_err-room-clause-current g c = empty_current g.D.Disk _ _ c.clear.ensures.items

pub returns-in_err-size-clause-current : goal.returns-in_err-size-clause-current
returns-in_err-size-clause-current g c = empty_current g.D.Disk _ _ c.clear.ensures.items

pub returns-then-room-size-clause-current : goal.returns-then-room-size-clause-current
returns-then-room-size-clause-current g c = empty_current g.D.Disk _ _ c.clear.ensures.items

pub returns-then-room-size-clause-bad : goal.returns-then-room-size-clause-bad
returns-then-room-size-clause-bad g c = λ image told.
    no_record c.args.at c.args.until (bytes_in image c.args.file)
    (omega (
      arith,
      c.if-room-size.true,
      c.in_ok-room.ensures.room image told,
      c.in_ok-size.ensures.size image (c.in_ok-room.ensures.same ∙ told),
    ))

pub returns-in_err-read_piece-clause-current : goal.returns-in_err-read_piece-clause-current
returns-in_err-read_piece-clause-current g c = empty_current g.D.Disk _ _ c.in_err-read_piece.ensures.none

pub returns-clause-current : goal.returns-clause-current
returns-clause-current g c = read_current g.D.Disk _ _ _ _ c.in_ok-read_piece.ensures.same c.in_ok-read_piece.ensures.read

pub returns-clause-shown : goal.returns-clause-shown
returns-clause-shown g c = λ image told.
    let room = c.in_ok-room.ensures.room image told in
    let size = c.in_ok-size.ensures.size image (c.in_ok-room.ensures.same ∙ told) in
    piece_shows c.args.at c.args.until _ (bytes_in image c.args.file) _
    (c.in_ok-read_piece.ensures.read image (c.in_ok-size.ensures.same ∙ (c.in_ok-room.ensures.same ∙ told)))
    (omega (arith, room, size))
    (omega (arith, room, size))
