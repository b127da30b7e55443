use Rattle.ix_replay.proofs.Writing.{told_next}
use Rattle.ix_replay.proofs.walk.ItemWalk.take_next.Goals as goal

pub returns : goal.returns
returns c = told_next c.next.result _ _ _ _ c.args.self.now.counted c.next.ensures.items c.next.ensures.cases c.args.self.now.writable
