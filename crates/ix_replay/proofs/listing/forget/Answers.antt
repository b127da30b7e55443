use Rattle.std.proofs.Common.{subst, sym}
use Rattle.ix_replay.specs.Covering.{Covers}
use Rattle.ix_replay.specs.Putting.{without}
use Rattle.ix_replay.proofs.Covered.{covers_moved}
use Rattle.ix_replay.proofs.Places.{moved_out, without_none}
use Rattle.ix_replay.proofs.listing.forget.Goals as goal

pub returns-then-at-items : goal.returns-then-at-items
returns-then-at-items c = λ covers. subst (Covers c.args.tally.now)
    (sym (without_none c.args.items.now c.args.at c.if-at-items.true)) covers

pub returns : goal.returns
returns c = λ covers. c.remove.ensures (without c.args.at c.args.items.now)
    (covers_moved c.args.tally.now c.args.items.now _ (moved_out c.args.items.now c.args.at c.index-items-at.result c.if-at-items.false
    c.index-items-at.is) covers)
