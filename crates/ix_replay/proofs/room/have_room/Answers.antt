use Rattle.std.proofs.Common.{arith}
use Rattle.ix_replay.proofs.WalkLengths.{room_told}
use Rattle.ix_replay.proofs.room.have_room.Goals as goal

pub returns : goal.returns
returns c = room_told c.loop-item.total c.loop-item.item-index c.args.items.now c.loop-item.invariant (let e = c.loop-item-test.false in
    omega (arith, e))
