use Rattle.std.proofs.Common.{rules}
use Rattle.ix_replay.specs.Putting.{with_item}
use Rattle.ix_replay.proofs.Covered.{some_moved}
use Rattle.ix_replay.proofs.listing.put.Goals as goal

pub returns-clause-covers : goal.returns-clause-covers
returns-clause-covers c = some_moved c.in_ok-tally.tally (with_item c.place_of-at.result c.args.item c.args.items.now.items) _
    c.in_ok-put_at.ensures.moved (search rules)
