use Rattle.std.proofs.Common.{[], sym}
use Rattle.std.proofs.lemmas.List.{append-nil}
use Rattle.ix_recovery.proofs.Putting.{said_more, said_all}
use Rattle.ix_recovery.proofs.whole_channels.put_channels.Goals as goal

pub loop-found-init : goal.loop-found-init
loop-found-init c = record { channels = []; said = tt; put = sym (append-nil c.args.said.now) }

pub loop-found-preserved : goal.loop-found-preserved
loop-found-preserved c =
    said_more c.args.opens.now c.loop-found.found-index c.found-item.result _ c.args.said.now c.loop-found.said _ c.loop-found-test.true
    c.found-item.is
    c.loop-found.invariant c.in_ok-channel_item.ensures c.in_ok-push.ensures.ok

pub returns : goal.returns
returns c = said_all c.args.opens.now c.loop-found.found-index c.args.said.now c.loop-found.said c.loop-found-test.false
    c.loop-found.invariant
