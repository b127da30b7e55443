use Rattle.std.proofs.lemmas.Result.{on_ok_weaker}
use Rattle.ix_catalog.specs.Filling as defs
use Rattle.ix_catalog.proofs.Joins.{join_same, join_other}
use Rattle.ix_catalog.proofs.pieces.add_record.Goals as goal

pub returns-in_ok-push-in-Some-clause-pieces : goal.returns-in_ok-push-in-Some-clause-pieces
returns-in_ok-push-in-Some-clause-pieces c =
    join_same (defs.piece_at c.args.spot c.args.event.now) c.in-Some.last c.in_ok-last-in-Some.last c.pop.new.self c.args.pieces.now
    c.push.new.self c.in-Some.ensures.last
    c.if-last-spot.true c.in_ok-last-in-Some.ensures.number c.in_ok-last-in-Some.ensures.at c.in_ok-last-in-Some.ensures.bytes
    c.in_ok-push-in-Some.ensures.ok

pub returns-in_ok-push-in-Some-2-clause-pieces : goal.returns-in_ok-push-in-Some-2-clause-pieces
returns-in_ok-push-in-Some-2-clause-pieces c =
    on_ok_weaker c.push_new.result
    (join_other (defs.piece_at c.args.spot c.args.event.now) c.in-Some.last c.pop.new.self c.args.pieces.now c.push-else-last-spot.new.self
    c.push_new.new.pieces c.in-Some.ensures.last
    c.if-last-spot.false c.in_ok-push-in-Some-2.ensures.ok)
    c.push_new.ensures.pieces
