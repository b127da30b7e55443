use Rattle.std.proofs.Common.{w64, sym}
use mir.Val.{SFits}
use Rattle.std.proofs.lemmas.Int.{to_z-of_z}
use Rattle.ix_life.proofs.housekeeping.housekeep.Goals as goal

pub returns : goal.returns
returns c =
    let f : SFits w64 c.args.moment = c.ranges.moment in
    rw (sym c.as_slice.ensures) (simp to_z-of_z at c.moves.ensures)
