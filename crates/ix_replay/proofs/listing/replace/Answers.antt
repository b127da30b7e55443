use Rattle.ix_replay.proofs.Places.{list_placed, book_placed, known_placed, moved_placed}
use Rattle.ix_replay.proofs.listing.replace.Goals as goal

pub returns-clause-listed : goal.returns-clause-listed
returns-clause-listed c = list_placed c.args.items.now.items c.args.at c.args.item c.requires.at c.requires.listed
    (c.requires.same c.args.item) c.requires.stays

pub returns-clause-book : goal.returns-clause-book
returns-clause-book c = book_placed c.args.items.now.items c.args.at c.args.item c.requires.at c.requires.listed
    (c.requires.same c.args.item)

pub returns-clause-known : goal.returns-clause-known
returns-clause-known c = known_placed c.args.items.now.items c.args.at c.args.item c.args.places.now c.requires.at
    (c.requires.same c.args.item) c.requires.known

pub returns-clause-moved : goal.returns-clause-moved
returns-clause-moved c = moved_placed c.args.items.now.items c.args.at c.args.item c.requires.at
