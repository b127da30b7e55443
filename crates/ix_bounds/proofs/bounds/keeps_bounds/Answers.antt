use Rattle.std.proofs.lemmas.Bool.Decides.{Decides-at}
use Rattle.ix_bounds.specs.Tests.{are_within}
use Rattle.ix_bounds.proofs.Deciding.{decides}
use Rattle.ix_bounds.proofs.bounds.keeps_bounds.Goals as goal

pub returns : goal.returns
returns c = λ p h.
    Decides-at c.are_within.result (are_within c.args.kept.now c.args.channels c.args.spots c.args.ledger.now c.args.shelves.now)
    c.are_within.ensures
    (decides p c.args.kept.now c.args.channels c.args.spots c.args.shelves.now c.args.ledger.now h)
